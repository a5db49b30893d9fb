-- `masks::with` meets its contract: `1 << i` is the set of slot i alone, and a slot past 63 is in no set. Assumes nothing.
use Prim.Native.Nat.{ℕ, ◌^◌, ◌<◌}
use mathlib.Core.Path.{◌≡◌, sym, ap, ◌∙◌}
use mathlib.Core.Bool.{Bool, ◌||◌, or-false}
use native.Mathlib.Nat.{one-mul}
use native.Mathlib.Omega.{arith}
use borrow.Author.Tests.{ne_eqb}
use lib.Bits.{bit_or, or_lt}
use lib.Dec.{eqb, lit<}
use lib.Pow.{pow-lt, shl_exact}
use Rattle.masks.specs.Sets.{has, set_of}
use Rattle.masks.proofs.Laws.{is_set, has_or, has_pow}
use Rattle.masks.proofs.with.Goals as goal

or_is_with : (m i : ℕ) → m < 2 ^ 64 → i < 64 → bit_or m (2 ^ i) ≡ set_of (λ k. has m k || eqb k i)
or_is_with m i l h =
    is_set (bit_or m (2 ^ i)) (λ k. has m k || eqb k i) (or_lt 64 m (2 ^ i) l (pow-lt h))
    (λ k q. has_or m (2 ^ i) k ∙ ap (λ (b : Bool). has m k || b) (has_pow i k))

past_is_with : (m i : ℕ) → m < 2 ^ 64 → 63 < i → m ≡ set_of (λ k. has m k || eqb k i)
past_is_with m i l h = is_set m (λ k. has m k || eqb k i) l (λ k q. rw (ne_eqb k i (λ e. omega arith)) (sym (or-false (has m k))))

pub returns-then-i-gt-LAST_SLOT : goal.returns-then-i-gt-LAST_SLOT
returns-then-i-gt-LAST_SLOT c = past_is_with c.args.set c.args.i c.ranges.set.fits c.if-i-gt-LAST_SLOT.true

pub returns-else-i-gt-LAST_SLOT : goal.returns-else-i-gt-LAST_SLOT
returns-else-i-gt-LAST_SLOT c =
    let h : c.args.i < 64 = omega arith in
    ap (bit_or c.args.set) (shl_exact {a = 1} 1 c.args.i 64 (lit< tt) (omega arith) ∙ one-mul (2 ^ c.args.i))
    ∙ or_is_with c.args.set c.args.i c.ranges.set.fits h
