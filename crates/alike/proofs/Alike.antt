-- Each record has one counterpart. The two are sound together and have one view, so the operations are asked under the same, and answer alike.
use mathlib.Core.Path.{◌≡◌, ◌∙◌, ap}
use Rattle.policy.specs.Limits.{single}
use Rattle.policy.specs.View.{View}
use Rattle.policy.specs.Tables.{Tables}
use Rattle.policy.specs.Read.{read_of}
use Rattle.policy.specs.Sound.{sound_of}
use Rattle.alike.specs.Bytes.{Bytes, read_bytes, AreBytes, AreMasks, StandsFor}
use Rattle.policy.proofs.Laws.Bools.{same_truth}
use Rattle.policy.proofs.Accepted.{accepted}
use Rattle.alike.proofs.Bytes.Stands.{views_same}
use Rattle.alike.proofs.Bytes.SameText.{same_text}
use Rattle.alike.proofs.Bytes.Alike.{sound_alike}
use Rattle.alike.proofs.Bytes.Only.{masks_only, bytes_only}
use Rattle.alike.proofs.Bytes.Counterparts.{masks_of, masks_form, masks_stand, bytes_of, bytes_form, bytes_stand}
use Rattle.printer.proofs.Printed.{printed_single}
use Rattle.calls.specs.Under.{Under, under}
use Rattle.calls.specs.Start.{start_answer, after_start}
use Rattle.calls.specs.Pend.{pend_outcome, after_pend}
use Rattle.calls.specs.Run.{run_answer, after_run}
use Rattle.report.specs.Report.{report_with, report_of}
use Rattle.alike.specs.Alike.{OneMasks, OneBytes, UnderBytes, AllAlike, ReportAlike}

under_same : (b : Bytes) (t : Tables) → AreBytes b → AreMasks t → StandsFor b t → (u : Under) → UnderBytes b u → u ≡ under single t
under_same b t bytes masks h u k =
    let sound : u.sound ≡ sound_of single t =
    same_truth u.sound (sound_of single t)
    (λ e. accepted single t ((sound_alike b t bytes masks h).0 (k.sound.0 e)))
    (λ e. k.sound.1 ((sound_alike b t bytes masks h).1 (printed_single t e))) in
    rw (k.limits, k.view ∙ views_same b t h, sound)

pub alike : AllAlike
alike b t bytes masks h u k =
    let same = under_same b t bytes masks h u k in
    record {
      soundness = sound_alike b t bytes masks h;
      views = views_same b t h;
      start = λ m. ap (λ (w : Under). start_answer w m) same;
      start_memory = λ m. ap (λ (w : Under). after_start w m) same;
      pend = λ m p l. ap (λ (w : Under). pend_outcome w m p l) same;
      pend_memory = λ m p l. ap (λ (w : Under). after_pend w m p l) same;
      run = λ x n. ap (λ (w : Under). run_answer w x n) same;
      run_state = λ x n. ap (λ (w : Under). after_run w x n) same;
      report = λ r. ap (λ (v : View). report_with r v) (views_same b t h);
    }

pub one_masks : OneMasks
one_masks b bytes =
    record {
      masks = masks_of b;
      form = masks_form b;
      stands = masks_stand b bytes;
      only = λ t m h. masks_only b t (masks_of b) m (masks_form b) h (masks_stand b bytes);
    }

pub one-bytes : OneBytes
one-bytes t masks unused =
    record {
      bytes = bytes_of t;
      form = bytes_form t;
      stands = bytes_stand t masks unused;
      only = λ b a h. bytes_only b (bytes_of t) t a (bytes_form t) h (bytes_stand t masks unused);
    }

pub report_alike : ReportAlike
unfolding report_of
report_alike text =
    let same = same_text text in
    rw (same.refusal, views_same (read_bytes text).bytes (read_of single text).tables same.stands)
