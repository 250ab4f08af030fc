-- A step is walked for one word more.
use Rattle.std.specs.Prelude.{◌≡◌, ◌<◌, ◌≤◌, ◌+◌, ◌-◌, ◌*◌, ◌%◌, ◌^◌, ◌↔◌, ℕ, List, not, length, map, slice_index, slice_index_or, All, IsTrue, bit_and, if◌then◌else◌, refl}
use Rattle.std.proofs.Common.{ap, ap₂, sym, ◌∙◌, subst, set, rules, arith}
use Rattle.std.proofs.lemmas.List.{length-map}
use Rattle.std.proofs.lemmas.List.Elements.{All-get_or}
use Rattle.psi_path.specs.Path.{first_place}
use Rattle.psi_rate.specs.Rates.{event_of}
use Rattle.psi_follow_packed.specs.Moves.{Moving, IsOfFirst, no_move, same_words}
use Rattle.psi_follow_packed.specs.Programs.{Prepared}
use Rattle.psi_follow_packed.specs.Views.{low_word, high_word, low_words, high_words, moving_by}
use Rattle.psi_follow_packed.specs.declared.moves.PackedEvent.{PackedEvent}
use Rattle.psi_follow_packed.proofs.FollowingLemmas.{move-read}
use Rattle.psi_path_packed.specs.Counts.{IsByFirst, AreMovesOf, StandsAt, StepsStand}
use Rattle.psi_path_packed.proofs.CountLemmas.{one_if}
use Rattle.psi_path_packed.proofs.PackedLemmas.{packed-long}
use Rattle.psi_path_packed.proofs.StepLemmas.{step-next}
use Rattle.psi_path_packed.proofs.TallyLemmas.{same-lists, moved-once, pair-more, plus-fits, chosen-fits, changed-fits, times-fits, low-at, high-at, one-times, number-small, most-place}
use Rattle.psi_path_packed.proofs.steps.Steps.follow.Goals as goal

pub advance_first-changed-requires : goal.advance_first-changed-requires
advance_first-changed-requires g c =
    let items = c.args.self.now.moves.items in
    let n = c.pick-event.result in
    let first : All (λ (m : PackedEvent g.row.K). IsByFirst m) items = c.requires.1.1.1.1.1.0 in
    let moves : AreMovesOf g.row.K g.course c.args.system.now.rates (map (moving_by low_word) items) = c.requires.1.1.1.1.1.1.0 in
    let few : g.row.K ≤ 32 = moves.prepared.packing.words in
    let within = (number-small g.course c.args.system.now.rates items n moves (most-place c.wheel-wheel.ensures c.pick-event.ensures.number.place)).0 in
    let read : c.index-moves-event.result ≡ slice_index_or items n c.index-moves-event.result =
    c.index-moves-event.is ∙ ap (λ (ms : List (PackedEvent g.row.K)). slice_index_or ms n c.index-moves-event.result) c.as_slice-moves.ensures.value in
    let own : IsByFirst c.index-moves-event.result =
    subst (λ (m : PackedEvent g.row.K). IsByFirst m) (sym read) (All-get_or (λ (m : PackedEvent g.row.K). IsByFirst m) items n c.index-moves-event.result within first) in
    (search rules, (search rules, (own.first, subst (λ (m : Moving). IsOfFirst g.row.K m) (sym own.twice) own.first)))

pub overflow_add-chosen : goal.overflow_add-chosen
overflow_add-chosen g c =
    let moves : AreMovesOf g.row.K g.course c.args.system.now.rates (map (moving_by low_word) c.args.self.now.moves.items) = c.requires.1.1.1.1.1.1.0 in
    let small = (number-small g.course c.args.system.now.rates c.args.self.now.moves.items c.pick-event.result moves (most-place c.wheel-wheel.ensures c.pick-event.ensures.number.place)).1 in
    let stands = c.loop-word.invariant.stands in
    let few = chosen-fits g.course.path g.course.steps stands.walked _ c.loop-word.chosen (map high_word c.loop-word.changes) (map low_word c.loop-word.changes) stands.all stands.few stands.counts c.pick-event.result small in
    record { fits = omega (arith, few) }

pub loop-word-preserved : goal.loop-word-preserved
loop-word-preserved g c =
    let K = g.row.K in
    let path = g.course.path in
    let steps = g.course.steps in
    let items = c.args.self.now.moves.items in
    let n = c.pick-event.result in
    let i = c.loop-word.word-index in
    let all = c.args.self.now.left in
    let kept = c.loop-word.invariant in
    let adv = c.advance_first-changed.ensures in
    let m = c.index-moves-event.result in
    let chosen = c.loop-word.chosen in
    let pairs = c.loop-word.changes in
    let x = c.loop-word.x in
    let y = c.advance_first-changed.new.x in
    let p : Prepared = record { packing = g.course.packing; moves = map (moving_by low_word) items } in
    let few_words : length c.args.drawn.now ≤ all = c.requires.1.1.1.1.0 in
    let first : All (λ (e : PackedEvent g.row.K). IsByFirst e) items = c.requires.1.1.1.1.1.0 in
    let moves : AreMovesOf K g.course c.args.system.now.rates p.moves = c.requires.1.1.1.1.1.1.0 in
    let before : StepsStand g.course c.args.self.now = c.requires.1.1.1.1.1.1.1 in
    let at_start = before.stands.all in
    let test : i < length c.args.drawn.now = c.loop-word-test.true in
    let smalls = number-small g.course c.args.system.now.rates items n moves (most-place c.wheel-wheel.ensures c.pick-event.ensures.number.place) in
    let within : n < length items = smalls.0 in
    let small : n < length path.rates + 1 = smalls.1 in
    let slice : c.as_slice-moves.result.now ≡ items = c.as_slice-moves.ensures.value in
    let read : m ≡ slice_index_or items n m = c.index-moves-event.is ∙ ap (λ (ms : List (PackedEvent g.row.K)). slice_index_or ms n m) slice in
    let own : IsByFirst m = subst (λ (e : PackedEvent g.row.K). IsByFirst e) (sym read) (All-get_or (λ (e : PackedEvent g.row.K). IsByFirst e) items n m within first) in
    let count : n < length p.moves = (let e = length-map items (λ (f : PackedEvent g.row.K). moving_by low_word f) in omega arith) in
    let move : moving_by low_word m ≡ slice_index_or p.moves n no_move = move-read p (moving_by low_word) items items n m refl refl read count in
    let twice : high_words y ≡ low_words y = moved-once K (moving_by low_word m) (moving_by high_word m) (low_words x) (high_words x) (low_words y) (high_words y) own.twice kept.twice adv.low adv.high in
    let same = same_words K (low_words y) (low_words x) in
    let left = all - i in
    let some : 1 ≤ left = omega (arith, test, few_words) in
    let place : first_place + (steps - left) ≡ (first_place + (steps - all)) + i = omega (arith, at_start, test, few_words) in
    let word = slice_index c.args.drawn.now i in
    let drawn : path.words (first_place + (steps - left)) ≡ word = ap path.words place ∙ sym (c.requires.1.1.1.0.each i test) in
    let number : n ≡ event_of path.rates word = c.pick-event.ensures.event ∙ ap (λ (rs : List ℕ). event_of rs word) (c.wheel-wheel.ensures ∙ sym moves.same_rates) in
    let tells : IsTrue same ↔ (low_words y ≡ low_words x) = same-lists K (low_words y) (low_words x) adv.low.long (ap (λ (ws : List ℕ). length ws) kept.stands.words ∙ packed-long K g.course.packing _) in
    let more = one_if (not same) in
    let next = step-next K g.course.packing.caps p path steps left n word (moving_by low_word m) (low_words x) (low_words y) chosen (map high_word pairs) (map low_word pairs) same
    moves.prepared moves.long kept.stands some drawn number small move adv.low tells more (more * left) refl refl in
    let stand_all = kept.stands.all in
    let stand_few = kept.stands.few in
    let changed_few = changed-fits path steps kept.stands.walked left chosen (map high_word pairs) (map low_word pairs) stand_all stand_few kept.stands.counts n small in
    let times_few = times-fits path steps kept.stands.walked left chosen (map high_word pairs) (map low_word pairs) stand_all stand_few kept.stands.counts n small in
    let one_few = one-times (not same) 1 in
    let left_few = one-times (not same) left in
    let mask : low_word c.advance_first-changed.result ≡ (if same then 0 else 2 ^ 64 - 1) = adv.low_changed in
    let high_mask : high_word c.advance_first-changed.result ≡ (if same then 0 else 2 ^ 64 - 1) =
    adv.high_changed ∙ ap₂ (λ (a b : List ℕ). if same_words K a b then 0 else 2 ^ 64 - 1) twice kept.twice in
    let now : low_word c.loop-word.change ≡ left = (let e = kept.times in omega arith) in
    let high_sum : high_word c.plus.result ≡ (slice_index (map high_word pairs) n + high_word c.and.result) % 2 ^ 64 = c.plus.ensures.high ∙ ap (λ v. (v + high_word c.and.result) % 2 ^ 64) (high-at pairs n) in
    let low_sum : low_word c.plus.result ≡ (slice_index (map low_word pairs) n + low_word c.and.result) % 2 ^ 64 = c.plus.ensures.low ∙ ap (λ v. (v + low_word c.and.result) % 2 ^ 64) (low-at pairs n) in
    let high_is : high_word c.plus.result ≡ slice_index (map high_word pairs) n + more =
    plus-fits (high_word c.plus.result) (slice_index (map high_word pairs) n) (high_word c.and.result) 1 more same high_sum (c.and.ensures.high ∙ ap₂ bit_and high_mask kept.one) (omega arith) (omega arith)
    (omega arith) in
    let low_is : low_word c.plus.result ≡ slice_index (map low_word pairs) n + more * left =
    plus-fits (low_word c.plus.result) (slice_index (map low_word pairs) n) (low_word c.and.result) left (more * left) same low_sum (c.and.ensures.low ∙ ap₂ bit_and mask now) (omega arith) refl (omega arith) in
    let later : left - 1 ≡ all - (i + 1) = omega arith in
    let high_list = pair-more high_word pairs n c.plus.result more high_is in
    let low_list = pair-more low_word pairs n c.plus.result (more * left) low_is in
    let less = c.plus-change.ensures.low in
    let one_less = c.of.ensures.low in
    let kept_one = c.plus-change.ensures.high in
    let none_less = c.of.ensures.high in
    let one = kept.one in
    record {
      times = omega (arith, less, one_less, now, some, left_few, stand_all, stand_few, later, test, few_words);
      one = omega (arith, kept_one, none_less, one);
      twice = twice;
      stands = subst (λ (ts : List ℕ). StandsAt K g.course.packing path steps (all - (i + 1)) (low_words y) (set chosen n (slice_index chosen n + 1)) (map high_word (set pairs n c.plus.result)) ts) (sym low_list)
          (subst (λ (cs : List ℕ). StandsAt K g.course.packing path steps (all - (i + 1)) (low_words y) (set chosen n (slice_index chosen n + 1)) cs
          (set (map low_word pairs) n (slice_index (map low_word pairs) n + more * left))) (sym high_list)
          (subst (λ (l : ℕ). StandsAt K g.course.packing path steps l (low_words y) (set chosen n (slice_index chosen n + 1)) (set (map high_word pairs) n (slice_index (map high_word pairs) n + more))
          (set (map low_word pairs) n (slice_index (map low_word pairs) n + more * left))) later next));
    }
