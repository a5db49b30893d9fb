-- The radio's whole life, from what is shown of one history: each power-up carries its landed changes out on what the one before it left.
use Prim.Native.Nat.{ℕ, ◌≤◌, ◌<◌}
use native.Mathlib.Omega.{arith}
use mathlib.Core.Path.{◌≡◌, refl, sym, ◌∙◌, ap, subst}
use mathlib.Core.Bool.{Bool, true, false, cond}
use mathlib.Core.List.Memᴰ
use mathlib.Core.List.{List, [], ◌∷◌, ◌++◌, Memᴰ}
use lib.ListN.{length, get_or}
use Rattle.ground.proofs.Decided.{clash}
use Rattle.rules.specs.declared.AskAnswer.TheVariants as ask
use Rattle.rules.specs.Sizes.{image_bytes}
use Rattle.rules.specs.Create.{changed}
use Rattle.rules.specs.Calls.{Asks}
use Rattle.rules.proofs.OldNumbers.{old_asks}
use Rattle.demands.specs.History.{History, Accepted, Happened, those}
use Rattle.demands.specs.Demand3.{store_after_cut, has_landed, carried_out, Later}
use Rattle.demands.specs.Life.{PowerUp, store_left, Lived, landed_in, all_landed, every, Onward, AtRest}
use Rattle.demands.specs.QuestionSeven.{Holds}
use Rattle.demands.proofs.Log.{number_below, number_least}
use Rattle.demands.proofs.Notes.{among_those}
use Rattle.demands.proofs.Lookup.{carries_used}
use Rattle.demands.proofs.Besides.{gone_landed}
use Rattle.demands.proofs.Histories.{happened_good}
use Rattle.demands.proofs.Safe.{all-landed}
use Rattle.demands.proofs.Later.{landed_for_good}
use Rattle.demands.proofs.Demand3.{demand_3, committed_stays}
use Rattle.demands.proofs.Reach.{place_holds}

-- ---- one list of changes in place of a test

-- the changes that pass a test carried out are those changes carried out, after what was carried out before them
carried_those : (test : Accepted → Bool) (l older : List Accepted) (store : List ℕ)
    → carried_out test l (carried_out every older store) ≡ carried_out every (those test l ++ older) store
unfolding carried_out those
carried_those test [] older store = refl
carried_those test (a ∷ l) older store = go (test a) (carried_those test l older store)
  where
    go : (v : Bool) → carried_out test l (carried_out every older store) ≡ carried_out every (those test l ++ older) store
        → cond v (changed (carried_out test l (carried_out every older store)) a.change) (carried_out test l (carried_out every older store))
        ≡ carried_out every (cond v (a ∷ those test l) (those test l) ++ older) store
    go true e = ap (λ (s : List ℕ). changed s a.change) e
    go false e = e

-- ---- the life

pub life_holds : (store : List ℕ) (life : List PowerUp) → Lived store life → store_left life store ≡ carried_out every (all_landed life) store
unfolding store_left all_landed landed_in carried_out
life_holds store [] l = refl
life_holds store (u ∷ life) (Lived.again h new l w e) =
    (demand_3 w new).holds
    ∙ ap (carried_out (has_landed new h) h.accepted) (e ∙ life_holds store life l)
    ∙ carried_those (has_landed new h) h.accepted (all_landed life) store

pub life_opening : (store : List ℕ) (life : List PowerUp) (u : PowerUp) → Lived store (u ∷ life) → u.history.opening ≡ carried_out every (all_landed life) store
life_opening store life u (Lived.again h new l w e) = e ∙ life_holds store life l

-- each power-up of a life is a history
pub each_happened : {store : List ℕ} {life : List PowerUp} → Lived store life → (u : PowerUp) → Memᴰ u life → Happened u.history
each_happened (Lived.begins e) u m = absurd (Memᴰ.not-nil m)
each_happened (Lived.again h new l w e) u (Memᴰ.head q) = subst (λ (v : PowerUp). Happened v.history) (sym q) w
each_happened (Lived.again h new l w e) u (Memᴰ.tail m) = each_happened l u m

-- what has landed in one of them has landed in the life
landed_in_life : (life : List PowerUp) (u : PowerUp) → Memᴰ u life → (a : Accepted) → Memᴰ a u.history.accepted
    → has_landed u.new u.history a ≡ true → Memᴰ a (all_landed life)
unfolding all_landed landed_in
landed_in_life [] u m a k e = absurd (Memᴰ.not-nil m)
landed_in_life (v ∷ life) u (Memᴰ.head q) a k e =
    subst (λ (x : PowerUp). Memᴰ a (landed_in x ++ all_landed life)) q
    (Memᴰ.append_left (all_landed life) (among_those (has_landed u.new u.history) u.history.accepted a k e))
landed_in_life (v ∷ life) u (Memᴰ.tail m) a k e = Memᴰ.append_right (landed_in v) (landed_in_life life u m a k e)

pub life_for_good : (life : List PowerUp) (u : PowerUp) → Memᴰ u life → (h : History) → Happened h → Later h u.history
    → (a : Accepted) → Memᴰ a h.accepted → Asks h.table a.number ask.Committed → Memᴰ a (all_landed life)
life_for_good life u m h w l a k p =
    let stays = committed_stays w a k p u.history l u.new in landed_in_life life u m a stays.0 stays.1

pub life_place : (store : List ℕ) (life : List PowerUp) → Lived store life → (p : ℕ) → p < image_bytes
    → Holds every (all_landed life) store p (get_or (store_left life store) p 0)
life_place store life l p k =
    subst (λ (s : List ℕ). Holds every (all_landed life) store p (get_or s p 0)) (sym (life_holds store life l))
    (place_holds every (all_landed life) store p (omega (arith, whole l)))
  where
    whole : {life : List PowerUp} → Lived store life → length store ≡ image_bytes
    whole (Lived.begins e) = e
    whole (Lived.again h new l w e) = whole l

-- ---- at rest

-- no slot has the change's number, so it has landed
pub rest_landed : (h : History) → Happened h → AtRest h → (new : ℕ → Bool) → (a : Accepted) → Memᴰ a h.accepted → has_landed new h a ≡ true
rest_landed h w rest new a m =
    let gone = gone_landed h (happened_good w) a m (λ i l f. clash (carries_used h.table.slots a.number i f) (rest i l)) in
    (landed_for_good h a m gone h Later.now new).1

pub rest_image : (h : History) → Happened h → AtRest h → (new : ℕ → Bool) → store_after_cut new h ≡ h.image
rest_image h w rest new = all-landed h (happened_good w) new (rest_landed h w rest new)

-- ---- old numbers

-- opened again and again at a number not below the last next, a radio's first number is not below any next before it
onward : {store : List ℕ} {u : PowerUp} {life : List PowerUp} → Lived store life → Onward (u ∷ life) → (v : PowerUp) → Memᴰ v life
    → v.history.table.next ≤ u.history.table.first
onward l Onward.one v m = absurd (Memᴰ.not-nil m)
onward l (Onward.then e o) v (Memᴰ.head q) = let same = ap (λ (x : PowerUp). x.history.table.next) q in omega arith
onward (Lived.again h new l w e) (Onward.then f o) v (Memᴰ.tail m) =
    let below = onward l o v m in let grows = (happened_good w).sound.next_least in omega arith

pub names_stay : (store : List ℕ) (u : PowerUp) (life : List PowerUp) → Lived store (u ∷ life) → Onward (u ∷ life)
    → (v : PowerUp) → Memᴰ v life → (a : Accepted) → Memᴰ a v.history.accepted
    → Asks u.history.table a.number ask.Committed × ((x : Accepted) → Memᴰ x u.history.accepted → x.number ≡ a.number → ⊥)
names_stay store u life (Lived.again h new l w e) o v m a k =
    let g = happened_good (each_happened l v m) in
    let g' = happened_good w in
    let first = onward l o v m in
    let below = number_below a g.numbers k in
    let least = number_least a g.numbers k in
    let one = g.sound.first_least in
    (old_asks h.table g'.sound a.number (omega arith, omega arith), λ x i q. let high = number_least x g'.numbers i in omega arith)
