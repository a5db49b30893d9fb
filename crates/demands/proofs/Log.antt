-- The log: the accepted changes by their places in it, newest first, and what their numbers say. A number may stand for several changes: one that joins has
-- the number of an older change of its block.
use Prim.Native.Nat.{ℕ, ◌+◌, ◌≤◌, ◌<◌}
use native.Mathlib.Omega.{arith}
use native.Mathlib.Decide.{dec_le}
use mathlib.Core.Path.{◌≡◌, refl, sym, ◌∙◌, ap, subst}
use mathlib.Core.Bool.{true}
use mathlib.Core.List.Memᴰ
use mathlib.Core.List.{List, [], ◌∷◌, map, Memᴰ}
use mathlib.Core.Logic.{◌≢◌, ◌⊎◌, inl, inr, ⊎_elim}
use Rattle.rules.specs.Table.{Issued, Old}
use Rattle.rules.specs.Create.{is_in}
use Rattle.cut.specs.Changes as cut
use Rattle.cut.specs.Changes.{Logged}
use Rattle.ground.proofs.Decided.{same_or_other}
use Rattle.demands.specs.History.{Accepted}
use Rattle.demands.specs.Demand3.{Earlier}

-- an accepted change as `cut` has it
abbrev pub plain : Accepted → Logged
plain a = record { number = a.number; block = a.change.block; offset = a.change.offset; bytes = a.change.bytes }

-- ---- how a log is numbered

-- the numbers of the log go from first up to next - 1
pub data Numbered (first : ℕ) : List Accepted → ℕ → Type 0 where
  begins : Numbered first [] first
  -- a change is given the next number
  fresh : {older : List Accepted} {next : ℕ} (a : Accepted) → a.number ≡ next → Numbered first older next → Numbered first (a ∷ older) (next + 1)
  -- or that of an older change of its block
  joins : {older : List Accepted} {next : ℕ} (a x : Accepted) → Memᴰ x older → a.number ≡ x.number → a.change.block ≡ x.change.block
      → Numbered first older next → Numbered first (a ∷ older) next

number_of : {a b : Accepted} → a ≡ b → a.number ≡ b.number
number_of e = ap (λ (x : Accepted). x.number) e

block_of : {a b : Accepted} → a ≡ b → a.change.block ≡ b.change.block
block_of e = ap (λ (x : Accepted). x.change.block) e

module _ {first : ℕ} where
  pub first_least : {l : List Accepted} {next : ℕ} → Numbered first l next → first ≤ next
  first_least Numbered.begins = omega arith
  first_least (Numbered.fresh a e n) = let z = first_least n in omega arith
  first_least (Numbered.joins a x k e b n) = first_least n

  -- a change's number is below next
  pub number_below : {l : List Accepted} {next : ℕ} (x : Accepted) → Numbered first l next → Memᴰ x l → x.number < next
  number_below x Numbered.begins m = absurd (Memᴰ.not-nil m)
  number_below x (Numbered.fresh a e n) (Memᴰ.head q) = let z = number_of q in omega arith
  number_below x (Numbered.fresh a e n) (Memᴰ.tail m) = let z = number_below x n m in omega arith
  number_below x (Numbered.joins a y k e b n) (Memᴰ.head q) = let z = number_of q in let w = number_below y n k in omega arith
  number_below x (Numbered.joins a y k e b n) (Memᴰ.tail m) = number_below x n m

  -- and not below first
  pub number_least : {l : List Accepted} {next : ℕ} (x : Accepted) → Numbered first l next → Memᴰ x l → first ≤ x.number
  number_least x Numbered.begins m = absurd (Memᴰ.not-nil m)
  number_least x (Numbered.fresh a e n) (Memᴰ.head q) = let z = number_of q in let w = first_least n in omega arith
  number_least x (Numbered.fresh a e n) (Memᴰ.tail m) = number_least x n m
  number_least x (Numbered.joins a y k e b n) (Memᴰ.head q) = let z = number_of q in let w = number_least y n k in omega arith
  number_least x (Numbered.joins a y k e b n) (Memᴰ.tail m) = number_least x n m

  -- each number from first to next - 1 is a change's
  pub number_taken : {l : List Accepted} {next : ℕ} (n : ℕ) → Numbered first l next → first ≤ n → n < next → (a : Accepted) × Memᴰ a l × (a.number ≡ n)
  number_taken n Numbered.begins low high = absurd (omega arith)
  number_taken n (Numbered.fresh {older = l} {next = next} a e q) low high = go (same_or_other n next) (λ p. number_taken n q low p)
    where
      go : (n ≡ next) ⊎ (n ≢ next) → (n < next → (x : Accepted) × Memᴰ x l × (x.number ≡ n)) → (x : Accepted) × Memᴰ x (a ∷ l) × (x.number ≡ n)
      go (inl p) ih = (a, Memᴰ.head refl, e ∙ sym p)
      go (inr d) ih = let r = ih (omega arith) in (r.0, Memᴰ.tail r.1, r.2)
  number_taken n (Numbered.joins a x k e b q) low high = let r = number_taken n q low high in (r.0, Memᴰ.tail r.1, r.2)

  -- changes of one number have one block
  pub block_one : {l : List Accepted} {next : ℕ} (x y : Accepted) → Numbered first l next → Memᴰ x l → Memᴰ y l → x.number ≡ y.number
      → x.change.block ≡ y.change.block
  block_one x y Numbered.begins m k e = absurd (Memᴰ.not-nil m)
  block_one x y (Numbered.fresh a i n) (Memᴰ.head p) (Memᴰ.head q) e = block_of (p ∙ sym q)
  block_one x y (Numbered.fresh a i n) (Memᴰ.head p) (Memᴰ.tail k) e = let z = number_of p in let w = number_below y n k in absurd (omega arith)
  block_one x y (Numbered.fresh a i n) (Memᴰ.tail m) (Memᴰ.head q) e = let z = number_of q in let w = number_below x n m in absurd (omega arith)
  block_one x y (Numbered.fresh a i n) (Memᴰ.tail m) (Memᴰ.tail k) e = block_one x y n m k e
  block_one x y (Numbered.joins a z j i b n) (Memᴰ.head p) (Memᴰ.head q) e = block_of (p ∙ sym q)
  block_one x y (Numbered.joins a z j i b n) (Memᴰ.head p) (Memᴰ.tail k) e =
      block_of p ∙ b ∙ block_one z y n j k (sym i ∙ sym (number_of p) ∙ e)
  block_one x y (Numbered.joins a z j i b n) (Memᴰ.tail m) (Memᴰ.head q) e =
      block_one x z n m j (e ∙ number_of q ∙ i) ∙ sym (block_of q ∙ b)
  block_one x y (Numbered.joins a z j i b n) (Memᴰ.tail m) (Memᴰ.tail k) e = block_one x y n m k e

-- ---- places

-- a is, at some place, the first change of its number
pub data Oldest : List Accepted → Accepted → Type 0 where
  here : {a : Accepted} {older : List Accepted} → ((x : Accepted) → Memᴰ x older → x.number ≡ a.number → ⊥) → Oldest (a ∷ older) a
  there : {b a : Accepted} {older : List Accepted} → Oldest older a → Oldest (b ∷ older) a

-- the number n stands for one change: no two places of the log have it
abbrev pub Once : ℕ → List Accepted → Type 0
Once n l = (y x : Accepted) → Earlier l y x → y.number ≡ n → x.number ≡ n → ⊥

-- and that one is then the first
pub once_oldest : (l : List Accepted) (a : Accepted) → Memᴰ a l → Once a.number l → Oldest l a
once_oldest [] a m f = absurd (Memᴰ.not-nil m)
once_oldest (b ∷ older) a (Memᴰ.head e) f =
    subst (λ (z : Accepted). Oldest (z ∷ older) a) e (Oldest.here (λ x m q. f b x (Earlier.here m) (sym (number_of e)) q))
once_oldest (b ∷ older) a (Memᴰ.tail m) f = Oldest.there (once_oldest older a m (λ y x e. f y x (Earlier.there e)))

pub oldest_in : {l : List Accepted} {a : Accepted} → Oldest l a → Memᴰ a l
oldest_in (Oldest.here f) = Memᴰ.head refl
oldest_in (Oldest.there o) = Memᴰ.tail (oldest_in o)

pub newer_in : {l : List Accepted} {y x : Accepted} → Earlier l y x → Memᴰ y l
newer_in (Earlier.here m) = Memᴰ.head refl
newer_in (Earlier.there e) = Memᴰ.tail (newer_in e)

pub older_in : {l : List Accepted} {y x : Accepted} → Earlier l y x → Memᴰ x l
older_in (Earlier.here m) = Memᴰ.tail m
older_in (Earlier.there e) = Memᴰ.tail (older_in e)

-- what each change named are old numbers, or numbers of changes earlier in the log
abbrev pub NamesOlder : (first : ℕ) → List Accepted → Type 0
NamesOlder first [] = Unit {0}
NamesOlder first (a ∷ older) =
    ((n : ℕ) → is_in n a.change.named ≡ true → Old first n ⊎ ((x : Accepted) × Memᴰ x older × (x.number ≡ n))) × NamesOlder first older

-- so it is with a new change, as it names issued numbers
pub names_older : {first next : ℕ} {l : List Accepted} (n : ℕ) → Numbered first l next → Issued next n
    → Old first n ⊎ ((x : Accepted) × Memᴰ x l × (x.number ≡ n))
names_older {first} {next} {l} n q i = go (dec_le first n)
  where
    go : Dec (first ≤ n) → Old first n ⊎ ((x : Accepted) × Memᴰ x l × (x.number ≡ n))
    go (yes low) = inr (number_taken n q low i.1)
    go (no d) = inl (i.0, omega arith)

pub named_earlier : {first : ℕ} (l : List Accepted) (y : Accepted) → NamesOlder first l → Memᴰ y l → (n : ℕ) → is_in n y.change.named ≡ true
    → Old first n ⊎ ((x : Accepted) × Earlier l y x × (x.number ≡ n))
named_earlier [] y f m n e = absurd (Memᴰ.not-nil m)
named_earlier (a ∷ l) y f (Memᴰ.head q) n e =
    ⊎_elim inl (λ r. inr (r.0, subst (λ (z : Accepted). Earlier (z ∷ l) y r.0) q (Earlier.here r.1), r.2))
    (f.0 n (subst (λ (z : Accepted). is_in n z.change.named ≡ true) q e))
named_earlier (a ∷ l) y f (Memᴰ.tail m) n e = ⊎_elim inl (λ r. inr (r.0, Earlier.there r.1, r.2)) (named_earlier l y f.1 m n e)

-- ---- the log of `cut`

in_log : (x : Accepted) {l : List Accepted} → Memᴰ x l → Memᴰ (plain x) (map plain l)
in_log x (Memᴰ.head q) = Memᴰ.head (ap plain q)
in_log x (Memᴰ.tail m) = Memᴰ.tail (in_log x m)

pub earlier_log : {l : List Accepted} (y x : Accepted) → Earlier l y x → cut.Earlier (map plain l) (plain y) (plain x)
earlier_log y x (Earlier.here m) = cut.Earlier.here (in_log x m)
earlier_log y x (Earlier.there e) = cut.Earlier.there (earlier_log y x e)

-- a change of the log is an accepted one
pub of_log : (l : List Accepted) (x : Logged) → Memᴰ x (map plain l) → (a : Accepted) × Memᴰ a l × (plain a ≡ x)
of_log [] x m = elim m [ ]
of_log (a ∷ l) x (Memᴰ.head e) = (a, Memᴰ.head refl, sym e)
of_log (a ∷ l) x (Memᴰ.tail m) = let r = of_log l x m in (r.0, Memᴰ.tail r.1, r.2)

-- what holds of every accepted change holds of every change of the log
pub on_log : (l : List Accepted) (P : Logged → Type 0) → ((a : Accepted) → Memᴰ a l → P (plain a)) → (x : Logged) → Memᴰ x (map plain l) → P x
on_log l P f x m = let r = of_log l x m in subst P r.2 (f r.0 r.1)
