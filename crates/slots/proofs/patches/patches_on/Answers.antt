-- `slots::patches::patches_on` meets its contract. The loop's invariant: each set has the patches of the slots passed. Assumes nothing.
use Prim.Native.Nat.{ℕ}
use mathlib.Core.Path.{◌≡◌, sym, ap, ◌∙◌}
use mathlib.Core.Bool.{Bool, false, ◌&&◌, and-true, and-false}
use native.Mathlib.Omega.{arith}
use borrow.Author.Tests.{eq-eqb, ne_eqb}
use lib.Dec.{eqb}
use Rattle.masks.specs.Sets.{set_below}
use Rattle.masks.proofs.Laws.{below_none, below_pass, with_if_below}
use Rattle.rules.specs.Slots.{is_waiting, is_hard, is_in_flight}
use Rattle.rules.specs.Table.{slot_at, waits_on, hard_on, flies_on}
use Rattle.slots.proofs.patches.patches_on.Goals as goal

-- a word on the block is the word on the state for a slot of the block, and false for any other
on_block : (x y : Bool) (n b : ℕ) → n ≡ b → x ≡ y → x ≡ (y && eqb n b)
on_block x y n b h e = e ∙ sym (ap (λ (z : Bool). y && z) (eq-eqb n b h) ∙ and-true y)

elsewhere : (y : Bool) (n b : ℕ) → (n ≡ b → ⊥) → (y && eqb n b) ≡ false
elsewhere y n b h = ap (λ (z : Bool). y && z) (ne_eqb n b h) ∙ and-false y

pub loop-i-init : goal.loop-i-init
loop-i-init c = record { waits = sym (below_none _); hards = sym (below_none _); flies = sym (below_none _) }

pub loop-i-preserved-then-s-block : goal.loop-i-preserved-then-s-block
loop-i-preserved-then-s-block c =
    let a = c.args in
    let passed = c.loop-i.invariant in
    let u = (slot_at a.slots.now c.loop-i.i).state in
    record {
      waits = passed.waits ∙ below_pass (waits_on a.slots.now a.block) c.loop-i.i (elsewhere (is_waiting u) _ _ c.if-s-block.true);
      hards = passed.hards ∙ below_pass (hard_on a.slots.now a.block) c.loop-i.i (elsewhere (is_hard u) _ _ c.if-s-block.true);
      flies = passed.flies ∙ below_pass (flies_on a.slots.now a.block) c.loop-i.i (elsewhere (is_in_flight u) _ _ c.if-s-block.true);
    }

pub loop-i-preserved : goal.loop-i-preserved
loop-i-preserved c =
    let a = c.args in
    let passed = c.loop-i.invariant in
    let l = c.loop-i-test.true in
    record {
      waits = c.with_if-waiting.ensures
          ∙ with_if_below (waits_on a.slots.now a.block) c.loop-i.i _ _ passed.waits l
          (on_block _ _ _ _ c.if-s-block.false c.is_waiting.ensures);
      hards = c.with_if-hard.ensures
          ∙ with_if_below (hard_on a.slots.now a.block) c.loop-i.i _ _ passed.hards l (on_block _ _ _ _ c.if-s-block.false c.is_hard.ensures);
      flies = c.with_if-in_flight.ensures
          ∙ with_if_below (flies_on a.slots.now a.block) c.loop-i.i _ _ passed.flies l
          (on_block _ _ _ _ c.if-s-block.false c.is_in_flight.ensures);
    }

pub returns : goal.returns
returns c =
    let passed = c.loop-i.invariant in
    let a = c.args in
    let e : c.loop-i.i ≡ 64 = omega arith in
    record {
      waiting = passed.waits ∙ ap (set_below (waits_on a.slots.now a.block)) e;
      hard = passed.hards ∙ ap (set_below (hard_on a.slots.now a.block)) e;
      in-flight = passed.flies ∙ ap (set_below (flies_on a.slots.now a.block)) e;
    }
