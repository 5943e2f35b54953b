-- One byte more at a time: the digits from the start are those passed and those from the place reached on.
use Rattle.std.proofs.Common.{◌≡◌, ℕ, sym, ◌∙◌, ap, arith}
use Rattle.text.proofs.Laws.Scan.{on_begin, on_past, on_other, on_more}
use Rattle.digits.proofs.scan.digits_from.Goals as goal

pub loop-i-init : goal.loop-i-init
loop-i-init g c = (on_begin g.B.Base.form _ _, omega arith)

pub returns-in_default : goal.returns-in_default
returns-in_default g c =
    sym
    (c.loop-i.invariant.0
    ∙ on_other g.B.Base.form c.args.text.now c.loop-i.value c.loop-i.i c.worth.ensures c.loop-i-test.true
    (omega (arith, c.loop-i.auto.value-fits)) c.in_default.is)

pub loop-i-preserved : goal.loop-i-preserved
loop-i-preserved g c = (
  c.loop-i.invariant.0
      ∙ on_more g.B.Base.form c.args.text.now c.loop-i.value c.loop-i.i c.worth.ensures c.loop-i-test.true c.in-Some.is
      (g.met.B.Base.is_base ∙ sym c.BASE.ensures),
  omega arith,
)

pub returns : goal.returns
returns g c =
    let l = c.args.text.now in
    let end : c.loop-i.i ≡ c.max.result = omega (arith, c.loop-i.invariant.1, c.max.ensures) in
    sym
    (c.loop-i.invariant.0
    ∙ on_past g.B.Base.form l c.loop-i.value c.loop-i.i (omega (arith, c.loop-i.auto.value-fits)) c.loop-i-test.false
    ∙ ap (λ (k : ℕ). record { value = c.loop-i.value; end = k; stop = 0 }) end)
