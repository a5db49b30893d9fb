-- `sound::judge::judge` meets its contract. The loop's invariant: each slot passed is sound alone and apart from those below it, and
-- the sets and the marks have what the slots passed give. Assumes nothing.
use Prim.Native.Nat.{ℕ, ◌<◌}
use mathlib.Core.Path.{◌≡◌, sym, ap, ◌∙◌, subst}
use mathlib.Core.Bool.{true}
use native.Mathlib.Omega.{arith}
use borrow.Author.Count.{below_none, below_more}
use Rattle.ground.proofs.Decided.{clash, yes_of, no_of}
use Rattle.masks.proofs.Laws as sets
use Rattle.rules.specs.Table.{used, slot_at}
use Rattle.sound.specs.SlotSound.{HeaderInRange, Alone, marked}
use Rattle.rules.proofs.Rooms.{rooms_most}
use Rattle.rules.proofs.Words.{room_is, has_room_used}
use Rattle.sound.proofs.Gathered.{gathered_none, gathered_pass, gathered_more}
use Rattle.sound.proofs.Rooms.{roomed, free_roomless, rooms_more, meets_shares, shares_meets}
use Rattle.sound.proofs.Tested.{follows, NumberApart, sound_within, tested_sound, fails, judged}
use Rattle.sound.proofs.judge.judge.Goals as goal
use Rattle.sound.proofs.judge.judge.Goals.{else-mark-via-then-mark+else-comes_again, else-mark-via-else-mark}
use Rattle.sound.proofs.judge.judge.Invariants.{Passed}

pub loop-i-init : goal.loop-i-init
loop-i-init c = record {
  rooms = gathered_none _;
  uses = sym (sets.below_none _);
  befores_all = gathered_none _;
  marks_below = below_none _;
  tested = below_none _;
}

pub loop-i-preserved-then-not-is_used : goal.loop-i-preserved-then-not-is_used
loop-i-preserved-then-not-is_used c =
    let passed = c.loop-i.invariant in
    let ss = c.args.slots.now in
    let free = sym c.is_used.ensures ∙ c.if-not-is_used.true in
    record {
      rooms = passed.rooms ∙ gathered_pass (roomed ss) c.loop-i.i (free_roomless ss c.loop-i.i free);
      uses = passed.uses ∙ sets.below_pass (used ss) c.loop-i.i free;
      befores_all = passed.befores_all ∙ gathered_pass (follows ss) c.loop-i.i (λ r. rw free);
      marks_below = below_more _ _ passed.marks_below (λ u. absurd (clash u free));
      tested = below_more _ _ passed.tested (record {
        alone = λ u. absurd (clash u free);
        number = λ u. absurd (clash u free);
        room = λ j r b e f. clash (has_room_used ss c.loop-i.i r e) free;
      });
    }

pub returns-then-not-sound_alone : goal.returns-then-not-sound_alone
returns-then-not-sound_alone c =
    let in_use = sym c.is_used.ensures ∙ c.if-not-is_used.false in
    fails c.rooms-most.ensures c.loop-i-test.true
    (λ t. no_of {P = Alone _ _ _ _ _} c.sound_alone.result c.sound_alone.ensures c.if-not-sound_alone.true (t.alone in_use))

pub returns-then-meets : goal.returns-then-meets
returns-then-meets c =
    let shared = meets_shares c.args.slots.now c.loop-i.i c.loop-i.invariant.rooms c.room_set-room.ensures
    (yes_of c.meets.result c.meets.ensures c.if-meets.true) in
    fails c.rooms-most.ensures c.loop-i-test.true (λ t. t.room shared.0 shared.1 shared.2 shared.3 shared.4)

pub loop-i-preserved : goal.loop-i-preserved
loop-i-preserved c =
    let in_use : used c.args.slots.now c.loop-i.i ≡ true =
    sym c.is_used.ensures ∙ c.if-not-is_used.false in
    let apart : NumberApart c.args.slots.now c.loop-i.i =
    elim c.else-mark.branch [
      | else-mark-via-then-mark+else-comes_again w ↦ λ j b h. no_of w.comes_again.result w.comes_again.ensures w.if-comes_again.false (j, omega arith, b, h)
      | else-mark-via-else-mark w ↦
          λ j b h. clash (ap (marked c.loop-i.marks) (sym h.1) ∙ c.loop-i.invariant.marks_below j b h.0) (sym c.mark.ensures.was ∙ w.if-mark.false)
    ] in
    let ss = c.args.slots.now in
    let passed = c.loop-i.invariant in
    let sound = yes_of {P = Alone _ _ _ _ _} c.sound_alone.result c.sound_alone.ensures c.if-not-sound_alone.false in
    record {
      rooms = c.either-taken.ensures ∙ rooms_more ss c.loop-i.i passed.rooms c.room_set-room.ensures;
      uses = c.with-used.ensures ∙ sets.with_below (used ss) c.loop-i.i _ passed.uses c.loop-i-test.true in_use;
      befores_all = c.either-befores.ensures ∙ gathered_more (follows ss) passed.befores_all _ (λ r l. rw in_use);
      marks_below = below_more _ _ (λ k l v. c.mark.ensures.kept _ (passed.marks_below k l v)) (λ v. c.mark.ensures.is);
      tested = below_more _ _ passed.tested (record {
        alone = λ v. sound;
        number = λ v. apart;
        room = λ j r b e f.
            let most = subst (λ (q : ℕ). q < c.rooms-most.result) (room_is (slot_at ss c.loop-i.i).state r e) sound.room_most in
            no_of c.meets.result c.meets.ensures c.if-meets.false
            (shares_meets ss c.loop-i.i passed.rooms c.room_set-room.ensures j r b
            (omega (arith, most, c.rooms-most.ensures, rooms_most c.args.setting)) e f);
      });
    }

pub returns : goal.returns
returns c =
    let a = c.args in
    let all : c.loop-i.i ≡ 64 = omega arith in
    let passed : Passed a.first a.next c.rooms-most.result a.slots.now c.loop-i.marks c.loop-i.taken c.loop-i.used c.loop-i.befores 64 =
    subst (Passed a.first a.next c.rooms-most.result a.slots.now c.loop-i.marks c.loop-i.taken c.loop-i.used c.loop-i.befores) all c.loop-i.invariant in
    let header = yes_of {P = HeaderInRange _ _} c.header_in_range.result c.header_in_range.ensures c.if-not-header_in_range.false in
    rw c.then_some.ensures (judged c.within.result
    (λ e. record {
      sound = tested_sound c.rooms-most.ensures passed.befores_all passed.uses header passed.tested (sym c.within.ensures ∙ e);
      used_slots = passed.uses;
      taken-rooms = passed.rooms;
    })
    (λ e s. clash (sound_within c.rooms-most.ensures passed.befores_all passed.uses s) (sym c.within.ensures ∙ e)))
