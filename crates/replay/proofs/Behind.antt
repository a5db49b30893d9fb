-- A read in place: what had come, and what one more read puts behind it.
use Rattle.std.proofs.Common.{ℕ, ◌≡◌, ◌+◌, ◌≤◌, List, ◌++◌, None, Some, sym, ap, ◌∙◌, subst, append_assoc, drop, drop_at, length, length-take-le, take}
use Rattle.std.specs.Io.KnownBytes.{Consumes}
use Rattle.std.specs.Prelude.{Option}
use borrow.Rule.Slice.PartMut.{put_mid, post_of, take_put}
use lib.Seq.{take-add, take-append-le}

consumes_both : (a b c : Option (List ℕ)) (xs ys : List ℕ) → Consumes a b xs → Consumes b c ys → Consumes a c (xs ++ ys)
consumes_both None b c xs ys p q = tt
consumes_both (Some u) None c xs ys p q = absurd p
consumes_both (Some u) (Some v) None xs ys p q = absurd q
consumes_both (Some u) (Some v) (Some w) xs ys p q = p ∙ ap (λ l. xs ++ l) q ∙ sym (append_assoc xs ys w)

-- the part from h on becomes ys, of which n bytes count
take_behind : (h k n : ℕ) (xs ys : List ℕ) → h ≤ length xs → n ≤ length ys → take (h + n) (put_mid h k xs ys) ≡ take h xs ++ take n ys
take_behind h k n xs ys within fits =
    let behind = ap (take n) (drop_at (take h xs) (ys ++ post_of h k xs) h (length-take-le h xs within)) ∙ take-append-le n ys (post_of h k xs) fits in
    take-add h n (put_mid h k xs ys) ∙ ap (λ l. l ++ take n (drop h (put_mid h k xs ys))) (take_put h k xs ys within) ∙ ap (λ l. take h xs ++ l) behind

pub more_come : (a b c : Option (List ℕ)) (h k n : ℕ) (xs ys : List ℕ) → h ≤ length xs → n ≤ length ys → Consumes a b (take h xs) → Consumes b c (take n ys)
    → Consumes a c (take (h + n) (put_mid h k xs ys))
more_come a b c h k n xs ys within fits had read =
    subst (Consumes a c) (sym (take_behind h k n xs ys within fits)) (consumes_both a b c _ _ had read)

-- what stands behind h is ys alone
pub only_behind : (a b : Option (List ℕ)) (h k n : ℕ) (xs ys : List ℕ) → h ≤ length xs → n ≤ length ys → Consumes a b (take n ys)
    → Consumes a b (drop h (take (h + n) (put_mid h k xs ys)))
only_behind a b h k n xs ys within fits read =
    subst (Consumes a b) (sym (ap (drop h) (take_behind h k n xs ys within fits) ∙ drop_at (take h xs) (take n ys) h (length-take-le h xs within))) read
