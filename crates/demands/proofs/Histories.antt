-- Every history that can be is good: the opening is, and each call keeps it so.
use Prim.Native.Nat.{ℕ}
use native.Mathlib.Omega.{arith}
use native.Mathlib.Decide.{ℕ_discrete}
use mathlib.Core.Path.{◌≡◌, refl, sym, ap, subst}
use mathlib.Core.List.Memᴰ
use mathlib.Core.List.{List, []}
use lib.ListN.{length}
use Rattle.rules.specs.declared.Setting.{Setting}
use Rattle.rules.specs.Sizes.{image_bytes}
use Rattle.rules.specs.Table.{Table}
use Rattle.rules.specs.Open.{opened}
use Rattle.rules.specs.Create.{Change, accepted, joined}
use Rattle.rules.specs.Passed.{CreatePassed}
use Rattle.rules.specs.Write.{sent}
use Rattle.rules.specs.Complete.{completed}
use Rattle.rules.specs.Calls.{Opening, Opens, answer_number, Creation, Creates, Accepts, Writing, Writes}
use Rattle.rules.specs.Calls.{Completion, Completes}
use Rattle.rules.proofs.Granted.{create_passed, write_passed}
use Rattle.rules.proofs.SoundCalls.{open_sound}
use Rattle.cut.proofs.Core.{open_invariant}
use Rattle.demands.specs.History.{History, Call, Happened, begun, after_create, after_write, after_complete}
use Rattle.demands.specs.Demand3.{written, times_sent}
use Rattle.demands.proofs.Log.{Numbered, oldest_in, newer_in}
use Rattle.demands.proofs.Good.{Good}
use Rattle.demands.proofs.Create.Leaves.{created_good}
use Rattle.demands.proofs.Join.Leaves.{joined_good}
use Rattle.demands.proofs.Write.Leaves.{gone_good}
use Rattle.demands.proofs.Complete.Leaves.{landed_good}

-- ---- open

opened_at : (g : Setting) (n : ℕ) (o : Opening) → Opens g n o → (m : ℕ) × (o.table ≡ opened g m)
opened_at g n o p = go (ℕ_discrete (answer_number o.answer) 0)
  where
    go : Dec (answer_number o.answer ≡ 0) → (m : ℕ) × (o.table ≡ opened g m)
    go (yes z) = (n, ap (λ (x : Opening). x.table) (p.grant z))
    go (no d) = (1, ap (λ (x : Opening). x.table) (p.refusal d).2)

begun_good : (g : Setting) (n : ℕ) (o : Opening) (store undo : List ℕ) → Opens g n o → length store ≡ image_bytes → Good (begun o store undo)
unfolding begun written times_sent
begun_good g n o store undo p e = record {
  sound = open_sound g n o p;
  numbers = let m = opened_at g n o p in subst (λ (t : Table). Numbered t.first [] t.next) (sym m.1) Numbered.begins;
  older = tt;
  linked = record {
    block = λ a m. absurd (Memᴰ.not-nil m);
    range = λ a m. absurd (Memᴰ.not-nil (oldest_in m));
    single = λ i l e y x z. absurd (Memᴰ.not-nil (newer_in z));
    told = λ a m. absurd (Memᴰ.not-nil m);
  };
  within = λ a m. absurd (Memᴰ.not-nil m);
  image_whole = e;
  opening_whole = e;
  done = λ a m. absurd (Memᴰ.not-nil m);
  out = λ a m. absurd (Memᴰ.not-nil m);
  whole = λ w m. absurd (Memᴰ.not-nil m);
  sent = λ w m. absurd (Memᴰ.not-nil m);
  some = λ w m. absurd (Memᴰ.not-nil m);
  once = λ n. omega arith;
  safe = open_invariant (record { store = λ b i. refl; sent = λ b i. refl; working = λ b i. refl; log = refl });
}

module _ (h : History) (g : Good h) where
  -- ---- create
  create_good : (c : Change) (o : Creation) → Creates h.table h.image h.undo c o → Good (after_create h c o)
  unfolding after_create accepted joined
  create_good c o p = go (ℕ_discrete (answer_number o.answer) 0)
    where
      granted : CreatePassed h.table h.image h.undo c → Accepts h.table h.image h.undo c o → Good (after_create h c o)
      granted v (Accepts.takes own a) =
          subst (λ (x : Creation). Good (after_create h c x)) (sym a.whole)
          (created_good (record { good = g; lowest = a.lowest; own = own; held = a.hard-or-soft; passed = v }))
      granted v (Accepts.joins does a) =
          subst (λ (x : Creation). Good (after_create h c x)) (sym a.whole) (joined_good (record { good = g; lowest = a.lowest; ready = v.ready }))

      go : Dec (answer_number o.answer ≡ 0) → Good (after_create h c o)
      go (no d) = subst (λ (x : Creation). Good (after_create h c x)) (sym (p.refusal d).2) g
      go (yes z) = granted (create_passed p z) (p.grant z)

  -- ---- write
  write_good : (b : ℕ) (lent : List ℕ) (o : Writing) → Writes h.table h.image h.undo lent b o → Good (after_write h b o)
  unfolding after_write sent
  write_good b lent o p = go (ℕ_discrete (answer_number o.answer) 0)
    where
      go : Dec (answer_number o.answer ≡ 0) → Good (after_write h b o)
      go (no d) = subst (λ (x : Writing). Good (after_write h b x)) (sym (p.refusal d).2) g
      go (yes z) =
          let a = p.grant z in
          subst (λ (x : Writing). Good (after_write h b x)) (sym a.whole)
          (gone_good (record { good = g; lent = lent; passed = write_passed p z; largest = a.largest }))

  -- ---- complete
  complete_good : (b : ℕ) (o : Completion) → Completes h.table b o → Good (after_complete h b o)
  unfolding after_complete completed
  complete_good b o p = go (ℕ_discrete (answer_number o.answer) 0)
    where
      go : Dec (answer_number o.answer ≡ 0) → Good (after_complete h b o)
      go (no d) = subst (λ (x : Completion). Good (after_complete h b x)) (sym (p.refusal d).2) g
      go (yes z) = subst (λ (x : Completion). Good (after_complete h b x)) (sym (p.grant z)) (landed_good g b)

call_good : {h h' : History} → Good h → Call h h' → Good h'
call_good {h} g (Call.creates c o p) = create_good h g c o p
call_good {h} g (Call.writes b lent o p) = write_good h g b lent o p
call_good {h} g (Call.completes b o p) = complete_good h g b o p
call_good g (Call.asks n a p) = g
call_good g (Call.counts b a p) = g

pub happened_good : {h : History} → Happened h → Good h
happened_good (Happened.opens g n o store undo p e) = begun_good g n o store undo p e
happened_good (Happened.calls w c) = call_good (happened_good w) c
