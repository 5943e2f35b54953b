-- 02, S-6: a byte record and the mask record that stands for the same are sound together: what an accepted text gives on the one side stands
-- for what it gives on the other, and there is no second record that does.
use mathlib.Core.Path.{◌≡◌, sym, ◌∙◌, ap}
use mathlib.Core.Logic.{◌↔◌}
use Rattle.std.specs.Prelude.{Ok}
use Rattle.policy.specs.Limits.{single}
use Rattle.policy.specs.Tables.{Tables}
use Rattle.policy.specs.Read.{Answer, read_of}
use Rattle.policy.specs.Sound.{Sound}
use Rattle.alike.specs.Bytes.{Bytes, BytesAnswer, read_bytes, SoundBytes, AreBytes, AreMasks, StandsFor}
use Rattle.policy.proofs.Entries.{lengths, fit}
use Rattle.policy.proofs.Accepted.{accepted}
use Rattle.alike.proofs.Bytes.Only.{masks_only, bytes_only}
use Rattle.alike.proofs.Bytes.SameText.{same_text}

sound_masks : (t : Tables) → Sound single t → AreMasks t
sound_masks t s =
    let h = accepted single t s in
    let l = lengths single t h in
    let f = fit single t h in
    record {
      reads_long = l.reads;
      writes_long = l.writes;
      sources_long = l.sources;
      reads_under = f.reads;
      writes_under = f.writes;
      sources_under = f.sources;
    }

module _ (b : Bytes) (t : Tables) (bytes : AreBytes b) (masks : AreMasks t) (h : StandsFor b t) where
  to_masks : SoundBytes b → Sound single t
  to_masks s =
      let same = same_text s.text in
      let now = read_of single s.text in
      let e : now.refusal ≡ Ok tt = sym same.refusal ∙ ap (λ (a : BytesAnswer). a.refusal) s.gives in
      let given : Sound single now.tables = record { text = s.text; gives = rw (← e) } in
      let stands : StandsFor b now.tables = rw s.gives at same.stands in
      rw (masks_only b t now.tables masks (sound_masks now.tables given) h stands) given

  to_bytes : Sound single t → SoundBytes b
  to_bytes s =
      let same = same_text s.text in
      let old = read_bytes s.text in
      let e : old.refusal ≡ Ok tt = same.refusal ∙ ap (λ (a : Answer). a.refusal) s.gives in
      let given : SoundBytes old.bytes = record { text = s.text; gives = rw (← e) } in
      let stands : StandsFor old.bytes t = rw s.gives at same.stands in
      rw (bytes_only b old.bytes t bytes same.bytes h stands) given

  pub sound_alike : SoundBytes b ↔ Sound single t
  sound_alike = (to_masks, to_bytes)
