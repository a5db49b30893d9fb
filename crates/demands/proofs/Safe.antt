-- A good history is safe at any cut: what `cut` shows of bytes seen one by one, said of lists of 16,384 and of the notes.
use Prim.Native.Nat.{ℕ}
use native.Mathlib.Omega.{arith}
use mathlib.Core.Path.{◌≡◌, refl, sym, ◌∙◌, ap, ap₂}
use mathlib.Core.Bool.{Bool, true, false, cond, ◌&&◌, ◌||◌}
use mathlib.Core.List.Memᴰ
use mathlib.Core.List.{List, [], ◌∷◌, map, Memᴰ}
use lib.ListN.{length}
use Rattle.spans.proofs.Laws.{length_splice}
use Rattle.rules.specs.Sizes.{image_bytes}
use Rattle.rules.specs.Create.{changed}
use Rattle.cut.specs.Changes.{Logged, after, only}
use Rattle.cut.specs.World as world
use Rattle.cut.specs.World.{Stage, waiting, in_flight, committed}
use Rattle.cut.specs.Cut as cutting
use Rattle.cut.specs.Cut.{after_cut, reached, landed}
use Rattle.cut.proofs.Facts.{carry_same}
use Rattle.cut.proofs.Core.{cut_safe}
use Rattle.demands.specs.History.{History, Accepted, those}
use Rattle.demands.specs.Demand3.{on_store, store_after_cut, sent_in, has_landed, carried_out, AskedFor, Follows, CutSafe}
use Rattle.demands.proofs.Log.{plain, newer_in, older_in, earlier_log}
use Rattle.demands.proofs.Views.{view, view_splice, view_same, Within}
use Rattle.demands.proofs.Notes.{length_written, some_written, sent_in_both, sent_in_those}
use Rattle.demands.proofs.AtSlot.{word_of, is_done, is_out}
use Rattle.demands.proofs.Good as radio
use Rattle.demands.proofs.Good.{Good, sent_to}

-- the changes that pass a test carried out on an image, seen byte by byte
pub length_carried : (test : Accepted → Bool) (l : List Accepted) (store : List ℕ) → length (carried_out test l store) ≡ length store
unfolding carried_out changed
length_carried test [] store = refl
length_carried test (a ∷ l) store = go (test a) ∙ length_carried test l store
  where
    go : (v : Bool) → length (cond v (changed (carried_out test l store) a.change) (carried_out test l store)) ≡ length (carried_out test l store)
    go true = length_splice (carried_out test l store) _ _
    go false = refl

view_carried : (test : Accepted → Bool) (word : Logged → Bool) (store : List ℕ) → length store ≡ image_bytes → (b i : ℕ) (l : List Accepted)
    → ((a : Accepted) → Memᴰ a l → test a ≡ word (plain a)) → ((a : Accepted) → Memᴰ a l → Within (plain a))
    → view (carried_out test l store) b i ≡ after (only word (map plain l)) (view store) b i
unfolding carried_out changed after only
view_carried test word store e b i [] f w = refl
view_carried test word store e b i (a ∷ l) f w =
    go (test a) (word (plain a)) (f a (Memᴰ.head refl))
    (view_carried test word store e b i l (λ x m. f x (Memᴰ.tail m)) (λ x m. w x (Memᴰ.tail m)))
  where
    go : (u v : Bool) → u ≡ v → view (carried_out test l store) b i ≡ after (only word (map plain l)) (view store) b i
        → view (cond u (changed (carried_out test l store) a.change) (carried_out test l store)) b i
        ≡ after (cond v (plain a ∷ only word (map plain l)) (only word (map plain l))) (view store) b i
    go true true q ih =
        view_splice (plain a) (carried_out test l store) (w a (Memᴰ.head refl)) (length_carried test l store ∙ e) b i
        ∙ carry_same b i (plain a) (view (carried_out test l store)) (after (only word (map plain l)) (view store)) ih
    go false false q ih = ih
    go true false q ih = absurd (let z : ◌≡◌ {A = ℕ} 0 1 = cc in omega arith)
    go false true q ih = absurd (let z : ◌≡◌ {A = ℕ} 0 1 = cc in omega arith)

-- what is noted, and what the table says of it
by_state : (new : Bool) (s : Stage) → ((new && is_out s) || is_done s) ≡ reached new s
unfolding reached
by_state true waiting = refl
by_state false waiting = refl
by_state true in_flight = refl
by_state false in_flight = refl
by_state true committed = refl
by_state false committed = refl

-- where all changes of a log pass a test, those that do are the log
only_all : (test : Logged → Bool) (l : List Accepted) → ((a : Accepted) → Memᴰ a l → test (plain a) ≡ true) → only test (map plain l) ≡ map plain l
unfolding only
only_all test [] f = refl
only_all test (a ∷ l) f = rw (f a (Memᴰ.head refl)) (ap (λ (r : List Logged). plain a ∷ r) (only_all test l (λ x m. f x (Memᴰ.tail m))))

module _ (h : History) (g : Good h) (new : ℕ → Bool) where
  pub landed_agrees : (a : Accepted) → Memᴰ a h.accepted → has_landed new h a ≡ landed new (radio.world h) (plain a)
  unfolding has_landed on_store landed
  landed_agrees a m =
      sent_in_both a.number (those (λ w. new w.block) h.in_flight) h.landed
      ∙ ap (λ (x : Bool). x || sent_in a.number h.landed) (sent_in_those new a.number a.change.block h.in_flight (sent_to h g a m))
      ∙ ap₂ (λ (x y : Bool). (new a.change.block && x) || y) (g.out a m) (g.done a m)
      ∙ by_state (new a.change.block) (word_of h.table.slots a.number)

  safe : cutting.SafeAt (view h.opening) (radio.world h) new
  safe = cut_safe g.safe new

  pub cut_seen : (b i : ℕ) → view (store_after_cut new h) b i ≡ after_cut new (radio.world h) b i
  unfolding store_after_cut on_store after_cut
  cut_seen b i = some_written h.opening g.opening_whole b i new h.in_flight h.landed (λ w m. g.whole w (Memᴰ.append_left h.landed m))

  carried : (b i : ℕ) → view (carried_out (has_landed new h) h.accepted h.opening) b i
      ≡ after (only (landed new (radio.world h)) (map plain h.accepted)) (view h.opening) b i
  carried b i = view_carried (has_landed new h) (landed new (radio.world h)) h.opening g.opening_whole b i h.accepted landed_agrees g.within

  holds : store_after_cut new h ≡ carried_out (has_landed new h) h.accepted h.opening
  unfolding store_after_cut
  holds =
      view_same (store_after_cut new h) (carried_out (has_landed new h) h.accepted h.opening)
      (length_written (on_store new h) h.opening ∙ g.opening_whole) (length_carried (has_landed new h) h.accepted h.opening ∙ g.opening_whole)
      (λ b i. cut_seen b i ∙ safe.holds b i ∙ sym (carried b i))

  -- where every change has landed the store holds the working image
  pub all-landed : ((a : Accepted) → Memᴰ a h.accepted → has_landed new h a ≡ true) → store_after_cut new h ≡ h.image
  unfolding store_after_cut
  all-landed f =
      view_same (store_after_cut new h) h.image (length_written (on_store new h) h.opening ∙ g.opening_whole) g.image_whole
      (λ b i. cut_seen b i ∙ safe.holds b i
      ∙ ap (λ (l : List Logged). after l (view h.opening) b i) (only_all (landed new (radio.world h)) h.accepted (λ a m. sym (landed_agrees a m) ∙ f a m))
      ∙ sym (g.safe.image b i))

  asked : (y x : Accepted) → AskedFor h y x → world.AskedEarlier (radio.world h) (plain y) (plain x)
  asked y x a = record {
    earlier = earlier_log y x a.earlier;
    asks = record { asker = y; asked_for = x; earlier = a.earlier; named = a.named; is = refl; its_is = refl };
  }

  follows : (y x : Accepted) → Follows h y x → world.AskedThrough (radio.world h) (plain y) (plain x)
  follows y x (Follows.straight a) = world.AskedThrough.straight (asked y x a)
  follows y x (Follows.through {z = z} a f) = world.AskedThrough.through (asked y z a) (follows z x f)

  ends : (y x : Accepted) → Follows h y x → Memᴰ y h.accepted × Memᴰ x h.accepted
  ends y x (Follows.straight a) = (newer_in a.earlier, older_in a.earlier)
  ends y x (Follows.through {z = z} a f) = (newer_in a.earlier, (ends z x f).1)

  pub good_safe : CutSafe h new
  good_safe = record {
    holds = holds;
    closed = λ y x e f.
        let m = ends y x f in
        landed_agrees x m.1 ∙ safe.closed (plain y) (plain x) (sym (landed_agrees y m.0) ∙ e) (follows y x f);
  }
