-- A write that is granted keeps the invariant: the block handed out is what the log gives without those left behind.
use Prim.Native.Nat.{ℕ}
use mathlib.Core.Path.{◌≡◌, refl, sym, ◌∙◌, ap, subst}
use mathlib.Core.Bool.{Bool, true, false, ◌&&◌, not}
use mathlib.Core.List.{List, Memᴰ}
use mathlib.Core.Logic.{◌≢◌, ◌⊎◌, inl, inr}
use lib.Dec.{eqb}
use Rattle.cut.specs.Changes.{Store, Logged, after, only, Earlier}
use Rattle.cut.specs.World.{World, Stage, waiting, in_flight, committed, is_waiting, left, Must, SendStep}
use Rattle.cut.specs.Cut.{reached}
use borrow.Author.Tests.{not-true, eq-eqb, eqb-true}
use Rattle.ground.proofs.Decided.{clash, and-true}
use Rattle.cut.proofs.Facts.{by_block, newer_in, older_in, covers_block, same_on_block}
use Rattle.cut.proofs.TakeBack.{NoneOver, kept_fewer, take_gives_rest}
use Rattle.cut.proofs.Invariant.{Held, done, waits, together, Invariant, carried, carried_same, held_waiting, held_together}
use Rattle.cut.proofs.Invariant.{waits_not_done, waits_not_off, off_not_done}
use Rattle.cut.proofs.Order.{must_before}

is-waiting : (r : Stage) → is_waiting r ≡ true → r ≡ waiting
unfolding is_waiting
is-waiting waiting e = refl
is-waiting in_flight e = absurd (clash e refl)
is-waiting committed e = absurd (clash e refl)

-- a change that is left behind waits on the block and does not go, and the other way round
left_is : (b : ℕ) (go : Logged → Bool) (w : World) (x : Logged) → left b go w x ≡ true → (x.block ≡ b) × (w.state x ≡ waiting) × (go x ≡ false)
unfolding left
left_is b go w x e =
    let p = and-true (eqb x.block b) _ e in
    let r = and-true (is_waiting (w.state x)) _ p.1 in (
      eqb-true x.block b p.0,
      is-waiting (w.state x) r.0,
      not-true (go x) r.1,
    )

is-left : (b : ℕ) (go : Logged → Bool) (w : World) (x : Logged) → x.block ≡ b → w.state x ≡ waiting → go x ≡ false → left b go w x ≡ true
unfolding left is_waiting
is-left b go w x s a g = rw (eq-eqb x.block b s, a, g)

module _ (b : ℕ) (go : Logged → Bool) (w w' : World) (h : SendStep b go w w') (opening : Store) (v : Invariant opening w) where
  -- the cases of a change of the log: it goes, or it is where it was
  data Fate (x : Logged) : Type 0 where
    off : go x ≡ true → w.state x ≡ waiting → w'.state x ≡ in_flight → x.block ≡ b → Fate x
    stays : go x ≡ false → w'.state x ≡ w.state x → Fate x

  fate : (x : Logged) → Memᴰ x w.log → Fate x
  fate x m = by (go x) refl
    where
      by : (r : Bool) → go x ≡ r → Fate x
      by true e = off e (h.goes x m e).0 (h.go_state x m e) (h.goes x m e).1
      by false e = stays e (h.stay_state x m e)

  -- What must follow is held: a member of the set has what it is tied to on the store, or beside it in the write.

  off_held : (y x : Logged) → w'.state y ≡ in_flight → y.block ≡ b → (w'.state x ≡ committed) ⊎ w'.tied y x
      → Fate x → (w.state x ≡ committed) ⊎ (go x ≡ true) → Held w' y x
  off_held y x d s t (stays gx ax) (inl q) = done (ax ∙ q)
  off_held y x d s t (stays gx ax) (inr q) = absurd (clash q gx)
  off_held y x d s t (off gx ax dx sx) (inl q) = waits_not_done ax q
  off_held y x d s t (off gx ax dx sx) (inr q) = held_together d dx (s ∙ sym sx) t

  held_still : (y x : Logged) → Earlier w.log y x → Must w y x → Fate y → Fate x → Held w y x → Held w' y x
  held_still y x e m (off g a d s) fx (waits k t) =
      off_held y x d s (h.old_ties y x e m (λ f. off_not_done d f) t) fx (h.go_tied y x (newer_in e) (older_in e) g t)
  held_still y x e m (stays g a) fx (waits k t) = held_waiting (a ∙ k) (h.old_ties y x e m (λ f. waits_not_done (a ∙ k) f) t)
  held_still y x e m fy (stays g a) (done k) = done (a ∙ k)
  held_still y x e m fy (off g a d s) (done k) = waits_not_done a k
  held_still y x e m (off g a d s) fx (together k q z t) = waits_not_off a k
  held_still y x e m (stays g a) (off gx ax dx sx) (together k q z t) = waits_not_off ax q
  held_still y x e m (stays g a) (stays gx ax) (together k q z t) =
      held_together (a ∙ k) (ax ∙ q) z (h.old_ties y x e m (λ f. off_not_done (a ∙ k) f) t)

  -- The bytes.

  -- no change commits by being sent
  done_same : (x : Logged) → Memᴰ x w.log → reached false (w.state x) ≡ reached false (w'.state x)
  unfolding reached
  done_same x m = by (fate x m)
    where
      by : Fate x → reached false (w.state x) ≡ reached false (w'.state x)
      by (off g a d s) = rw (a, d)
      by (stays g a) = rw a

  -- on the block, what is not left behind is on its way or there afterwards
  gone_here : (x : Logged) → Memᴰ x w.log → x.block ≡ b → not (left b go w x) ≡ reached true (w'.state x)
  unfolding reached is_waiting left
  gone_here x m s = by (fate x m)
    where
      at : (r : Stage) → not (true && (is_waiting r && not false)) ≡ reached true r
      at waiting = refl
      at in_flight = refl
      at committed = refl

      by : Fate x → not (eqb x.block b && (is_waiting (w.state x) && not (go x))) ≡ reached true (w'.state x)
      by (off g a d q) = rw (eq-eqb x.block b s, g, a, d)
      by (stays g a) = rw (eq-eqb x.block b s, g, a) (at (w.state x))

  -- elsewhere nothing goes
  gone_there : (x : Logged) → Memᴰ x w.log → x.block ≢ b → reached true (w.state x) ≡ reached true (w'.state x)
  gone_there x m s = by (fate x m)
    where
      by : Fate x → reached true (w.state x) ≡ reached true (w'.state x)
      by (off g a d q) = absurd (s q)
      by (stays g a) = rw a

  -- where two changes share a byte and the older one is left behind, so is the newer
  none_over : (i : ℕ) → NoneOver (left b go w) b i w.log
  none_over i y x e cy cx f = by (left b go w x) refl
    where
      tie : w.state x ≡ waiting → go x ≡ false → (w.state x ≡ committed) ⊎ (go x ≡ true) → left b go w x ≡ false
      tie a g (inl q) = waits_not_done a q
      tie a g (inr q) = absurd (clash q g)

      under : w.state x ≡ waiting → go x ≡ false → Held w y x → (r : Bool) → go y ≡ r → left b go w x ≡ false
      under a g (done d) r er = waits_not_done a d
      under a g (together d q s t) r er = waits_not_off a q
      under a g (waits d t) false er = absurd (clash (is-left b go w y (covers_block y b i cy) d er) f)
      under a g (waits d t) true er = tie a g (h.go_tied y x (newer_in e) (older_in e) er t)

      by : (r : Bool) → left b go w x ≡ r → left b go w x ≡ false
      by false q = q
      by true q =
          let k = left_is b go w x q in
          under k.1 k.2 (v.order y x e (inr (record { in_block = b; place = i; mine = cy; yours = cx }))) (go y) refl

  -- what the store will hold of the block is what the log gives of the changes that went
  handed_out_lem : (i : ℕ) → w'.sent b i ≡ carried true w' opening b i
  handed_out_lem i =
      h.bytes i
      ∙ (take_gives_rest b i (left b go w) w.undo opening w.log
      (kept_fewer w.kept (left b go w) w.undo w.undo opening w.log (λ x m e. (h.left_kept x m e, λ i. refl)) v.kept)
      (none_over i) w.working (v.image b i)
      ∙ (same_on_block b i _ (λ x. reached true (w'.state x)) opening w.log gone_here
      ∙ ap (λ (l : List Logged). after (only (λ x. reached true (w'.state x)) l) opening b i) (sym h.log)))

  pub send_keeps : Invariant opening w'
  send_keeps = record {
    image = λ d i. rw h.log (h.working d i ∙ v.image d i);
    on_store = λ d i. h.store d i ∙ (v.on_store d i ∙ carried_same w w' opening h.log false false d i (λ x m s. done_same x m));
    on_way = by_block (λ d. (i : ℕ) → w'.sent d i ≡ carried true w' opening d i) b handed_out_lem
        (λ d n i. h.others d i n ∙ (v.on_way d i ∙ carried_same w w' opening h.log true true d i (λ x m s. gone_there x m (λ p. n (sym s ∙ p)))));
    kept = rw h.log (kept_fewer _ _ _ _ _ _ h.old_undo v.kept);
    order = λ y x e m.
        let e' = subst (λ (l : List Logged). Earlier l y x) h.log e in
        let m' = must_before w w' h.asks e' m in
        held_still y x e' m' (fate y (newer_in e')) (fate x (older_in e')) (v.order y x e' m');
  }
