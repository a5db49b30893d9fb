-- `Text::put_number` meets its contract. Before each turn, with the digits of what is left of the number laid up to where the turn ends, the bytes would
-- be as promised. Assumes nothing.
use Rattle.std.proofs.Common.{ℕ, ◌+◌, ◌-◌, ◌≡◌, List, refl, sym, ap, ◌∙◌, length, length-set, arith}
use Rattle.spans.specs.Spans.{splice}
use Rattle.spans.proofs.Laws.{splice_none}
use Rattle.lines.specs.Decimal.{decimal}
use Rattle.lines.proofs.FromTheRight.{last_digits, all_digits, one_stored}
use Rattle.lines.proofs.text.Text.put_number.Goals as goal

pub loop-i-init : goal.loop-i-init
loop-i-init c =
    let t = c.args.self.now in
    let n = c.args.n in
    let k : t.len + c.digits.result - t.len ≡ length (decimal n) = omega arith in
    record { bytes = ap (λ (ys : List ℕ). splice t.buffer.now t.len ys) (rw k (all_digits n)); size = refl; place = refl; lent = refl }

pub loop-i-preserved : goal.loop-i-preserved
loop-i-preserved c =
    let i = c.loop-i in
    let t = i.self in record {
      bytes = one_stored t.buffer.now t.len i.i i.rest (omega (arith, i.invariant.place, c.loop-i-test.true)) ∙ i.invariant.bytes;
      size = simp length-set i.invariant.size;
      place = i.invariant.place;
      lent = i.invariant.lent;
    }

pub returns-clause-adds : goal.returns-clause-adds
unfolding last_digits
returns-clause-adds c =
    let i = c.loop-i in
    let t = i.self in
    let was = c.args.self.now in
    let none : i.i - t.len ≡ 0 = omega (arith, i.invariant.place, c.loop-i-test.false) in record {
      laid = record {
        bytes = sym (splice_none t.buffer.now t.len) ∙ ap (λ (k : ℕ). splice t.buffer.now t.len (last_digits k i.rest)) (sym none) ∙ i.invariant.bytes;
        next = omega arith;
        size = i.invariant.size;
      };
      lent = i.invariant.lent;
    }
