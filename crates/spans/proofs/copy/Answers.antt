-- `spans::copy` meets its contract. The loop has laid the first j bytes; it ends where either side does, and what is left of n is
-- not there to be laid or falls past the end. Assumes nothing.
use Prim.Native.Nat.{ℕ, ◌+◌, ◌-◌, ◌<◌, min}
use mathlib.Core.Path.{◌≡◌, refl, sym, ◌∙◌}
use mathlib.Core.List.{List}
use native.Mathlib.Numerals.{add-one}
use native.Mathlib.Omega.{arith}
use lib.ListN.{length, get_or, set, drop, length-drop, length-set}
use lib.Seq.{get_or-drop}
use Rattle.spans.specs.Spans.{splice, part}
use Rattle.spans.proofs.Laws.{splice_none, splice_more, splice_fitting}
use Rattle.spans.proofs.copy.Goals as goal

module _ (old src : List ℕ) (at from : ℕ) (dst : List ℕ) (j : ℕ) (e : dst ≡ splice old at (part src from j)) where
  -- a turn lays one byte more
  one_more : from + j < length src → set dst (at + j) (get_or src (from + j) 0) ≡ splice old at (part src from (j + 1))
  one_more l =
      let h : j < length (drop from src) = simp length-drop (omega arith) in
      rw (e, ← get_or-drop from src j 0, add-one j, splice_more)

  -- as many as fit are as good as n
  all_laid : (n : ℕ) → j ≡ min (min n (length src - from)) (length old - at) → dst ≡ splice old at (part src from n)
  all_laid n f = e ∙ splice_fitting old at (drop from src) j n (rw length-drop f)

pub loop-j-init : goal.loop-j-init
loop-j-init c = (sym (splice_none _ _), refl)

pub loop-j-preserved : goal.loop-j-preserved
loop-j-preserved c =
    let a = c.args in
    let i = c.loop-j in
    (one_more a.dst.now a.src.now a.at a.from i.dst i.j i.invariant.0 (omega arith), simp length-set (omega arith))

pub returns : goal.returns
returns c =
    let a = c.args in
    let i = c.loop-j in
    all_laid a.dst.now a.src.now a.at a.from i.dst i.j i.invariant.0 a.n (omega arith)
