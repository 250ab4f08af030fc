-- A step takes the sums on: idle, without a change, or turned.
use Rattle.std.specs.Prelude.{◌≡◌, ◌≤◌, ◌<◌, ◌+◌, ◌-◌, ◌*◌, ◌^◌, ◌&&◌, ℕ, suc, List, length, slice_index, slice_get, true, false, not, nat_eq, Some, option_map, refl}
use Rattle.std.specs.Int.RustNames.{unsigned_abs}
use Rattle.std.proofs.Common.{ap, sym, ◌∙◌, subst, set, arith}
use Rattle.std.proofs.lemmas.List.{get_or_default}
use Rattle.psi_state.specs.State.{IsBelow}
use Rattle.psi_rate.specs.Rates.{event_of}
use Rattle.psi_path.specs.Path.{first_place, path_of, state_of, event_after, is_changed}
use Rattle.psi_path.specs.Sums.{worth_at, chosen_until, changed_until}
use Rattle.psi_path.specs.Running.{CountsStand}
use Rattle.psi_path.proofs.StandLemmas.{queues-next, rewards-next, rewards-kept, rewards-few, count-few, counts-idle, counts-chosen, counts-changed}
use Rattle.psi_path.proofs.StepLemmas.{idle-chosen, idle-next, picked-small, picked-caps, picked-below, picked-chosen, picked-next, few-customers, changed-is, same-next}
use Rattle.psi_path.proofs.running.Running.step.Goals as goal

pub returns-in_default-clause-stands : goal.returns-in_default-clause-stands
returns-in_default-clause-stands g c =
    let system = c.args.system.now in
    let fit = c.caps-caps.ensures.fit in
    let path = path_of g.E.EventLaw.function system g.course.words g.course.start in
    let worths = g.R.Rewards.worths c.args.rewards.now in
    let stands = c.requires.1.1.1.1.1 in
    let self = c.args.self.now in
    let k = stands.walked in
    let all = stands.all in
    let some = c.requires.1.1.1.1.0 in
    let at : path.words (first_place + k) ≡ c.args.word = ap (λ j. g.course.words (first_place + j)) (omega arith) ∙ c.requires.1.1.0 in
    let none : event_of system.rates c.args.word ≡ length system.events = c.pick-number.ensures.idle.0 c.in_default.is in
    let next : self.state ≡ state_of path (suc k) = idle-next g.E.EventLaw.function system c.args.word none g.course.words g.course.start k at self.state stands.present in
    let one : self.left ≡ suc (self.left - 1) = omega arith in
    record {
      walked = suc k;
      all = omega arith;
      few = stands.few;
      present = next;
      within = stands.within;
      queues = queues-next (length system.caps) path k self.left (self.left - 1) self.state self.state self.queues.items self.queues.items
          one next (few-customers system.caps self.state fit.valid stands.within) refl (λ q small. refl) stands.queues;
      rewards = rewards-next worths path k self.left (self.left - 1) self.state self.state self.rewards.items self.values.items self.rewards.items self.values.items
          one next refl refl (rewards-kept worths path k self.left self.state self.state self.rewards.items self.values.items refl stands.rewards)
          stands.rewards.present stands.rewards.small stands.rewards;
      counts = counts-idle path k self.chosen.items self.changed.items
          (idle-chosen g.E.EventLaw.capacities g.E.EventLaw.function system fit c.args.word none g.course.words g.course.start k at) stands.counts;
    }

-- ---- an event that is picked

pub overflow_add-index_mut : goal.overflow_add-index_mut
overflow_add-index_mut g c =
    let system = c.args.system.now in
    let path = path_of g.E.EventLaw.function system g.course.words g.course.start in
    let stands = c.requires.1.1.1.1.1 in
    let n = c.pick-number.result.0 in
    let is : Some c.in-Some.event.now ≡ slice_get system.events (event_of system.rates c.args.word) = sym (ap (λ o. option_map (λ e. e.now) o) c.in-Some.is) ∙ c.pick-number.ensures.event in
    let small : n < length path.rates =
    picked-small g.E.EventLaw.capacities g.E.EventLaw.function system c.caps-caps.ensures.fit c.args.word n c.in-Some.event.now c.pick-number.ensures.number is in
    let sized = stands.counts.sized in
    let read : c.index_mut.result.now ≡ chosen_until path n stands.walked =
    c.index_mut.ensures.value ∙ get_or_default c.args.self.now.chosen.items n c.index_mut.result.now 0 (omega arith) ∙ stands.counts.each n small in
    let few = count-few (λ t. nat_eq (event_after path t) n) stands.walked in
    let all = stands.all in
    let steps = stands.few in
    omega arith

pub apply-requires : goal.apply-requires
apply-requires g c =
    let system = c.args.system.now in
    let is : Some c.in-Some.event.now ≡ slice_get system.events (event_of system.rates c.args.word) = sym (ap (λ o. option_map (λ e. e.now) o) c.in-Some.is) ∙ c.pick-number.ensures.event in
    let caps = picked-caps g.E.EventLaw.capacities g.E.EventLaw.function system c.caps-caps.ensures.fit c.args.word c.pick-number.result.0 c.in-Some.event.now c.pick-number.ensures.number is in
    subst (λ (xs : List ℕ). IsBelow c.args.self.now.state xs) (sym caps) c.requires.1.1.1.1.1.within

pub returns-then-eq-clause-stands : goal.returns-then-eq-clause-stands
returns-then-eq-clause-stands g c =
    let system = c.args.system.now in
    let fit = c.caps-caps.ensures.fit in
    let path = path_of g.E.EventLaw.function system g.course.words g.course.start in
    let worths = g.R.Rewards.worths c.args.rewards.now in
    let stands = c.requires.1.1.1.1.1 in
    let self = c.args.self.now in
    let k = stands.walked in
    let all = stands.all in
    let some = c.requires.1.1.1.1.0 in
    let n = c.pick-number.result.0 in
    let event = c.in-Some.event.now in
    let number = c.pick-number.ensures.number in
    let at : path.words (first_place + k) ≡ c.args.word = ap (λ j. g.course.words (first_place + j)) (omega arith) ∙ c.requires.1.1.0 in
    let is : Some event ≡ slice_get system.events (event_of system.rates c.args.word) = sym (ap (λ o. option_map (λ e. e.now) o) c.in-Some.is) ∙ c.pick-number.ensures.event in
    let small : n < length path.rates = picked-small g.E.EventLaw.capacities g.E.EventLaw.function system fit c.args.word n event number is in
    let chosen = picked-chosen g.E.EventLaw.capacities g.E.EventLaw.function system fit c.args.word n event number is g.course.words g.course.start k at in
    let next : c.apply.new.x ≡ state_of path (suc k) =
    picked-next g.E.EventLaw.capacities g.E.EventLaw.function system fit c.args.word n event number is g.course.words g.course.start k at self.state c.apply.new.x stands.present c.apply.ensures.value in
    let within : IsBelow c.apply.new.x system.caps =
    picked-below g.E.EventLaw.capacities g.E.EventLaw.function system fit c.args.word n event number is c.apply.new.x c.apply.ensures.within in
    let own : self.state ≡ state_of path (suc k) = same-next path k self.state c.apply.new.x stands.present next c.eq.result c.eq.ensures c.if-eq.true in
    let same : is_changed path (suc k) ≡ false = changed-is path k self.state c.apply.new.x stands.present next c.eq.result c.eq.ensures ∙ ap not c.if-eq.true in
    let one : self.left ≡ suc (self.left - 1) = omega arith in
    let sized = stands.counts.sized in
    let read : c.index_mut.result.now ≡ slice_index self.chosen.items n = c.index_mut.ensures.value ∙ get_or_default self.chosen.items n c.index_mut.result.now 0 (omega arith) in
    record {
      walked = suc k;
      all = omega arith;
      few = stands.few;
      present = next;
      within = within;
      queues = queues-next (length system.caps) path k self.left (self.left - 1) self.state c.apply.new.x self.queues.items self.queues.items
          one next (few-customers system.caps c.apply.new.x fit.valid within) refl
          (λ q inner. ap (λ (x : List ℕ). slice_index self.queues.items q + self.left * slice_index x q) (own ∙ sym next)) stands.queues;
      rewards = rewards-next worths path k self.left (self.left - 1) self.state c.apply.new.x self.rewards.items self.values.items self.rewards.items self.values.items
          one next refl refl (rewards-kept worths path k self.left self.state c.apply.new.x self.rewards.items self.values.items (next ∙ sym own) stands.rewards)
          (λ r inner. stands.rewards.present r inner ∙ ap (λ (x : List ℕ). worth_at worths r x) (own ∙ sym next))
          (λ r inner. subst (λ (x : List ℕ). unsigned_abs (worth_at worths r x) ≤ 2 ^ 63) (own ∙ sym next) (stands.rewards.small r inner)) stands.rewards;
      counts = subst (λ v. CountsStand path (suc k) (set self.chosen.items n (v + 1)) self.changed.items) (sym read)
          (counts-chosen path k n self.chosen.items self.changed.items chosen small same stands.counts);
    }

-- ---- a state that changes

pub overflow_add-index_mut-2 : goal.overflow_add-index_mut-2
overflow_add-index_mut-2 g c =
    let system = c.args.system.now in
    let path = path_of g.E.EventLaw.function system g.course.words g.course.start in
    let stands = c.requires.1.1.1.1.1 in
    let n = c.pick-number.result.0 in
    let is : Some c.in-Some.event.now ≡ slice_get system.events (event_of system.rates c.args.word) = sym (ap (λ o. option_map (λ e. e.now) o) c.in-Some.is) ∙ c.pick-number.ensures.event in
    let small : n < length path.rates =
    picked-small g.E.EventLaw.capacities g.E.EventLaw.function system c.caps-caps.ensures.fit c.args.word n c.in-Some.event.now c.pick-number.ensures.number is in
    let sized = stands.counts.also_sized in
    let read : c.index_mut-2.result.now ≡ changed_until path n stands.walked =
    c.index_mut-2.ensures.value ∙ get_or_default c.args.self.now.changed.items n c.index_mut-2.result.now 0 (omega arith) ∙ stands.counts.also n small in
    let few = count-few (λ t. nat_eq (event_after path t) n && is_changed path t) stands.walked in
    let all = stands.all in
    let steps = stands.few in
    omega arith

pub turn_queues-requires-clause-state : goal.turn_queues-requires-clause-state
turn_queues-requires-clause-state g c =
    let system = c.args.system.now in
    let is : Some c.in-Some.event.now ≡ slice_get system.events (event_of system.rates c.args.word) = sym (ap (λ o. option_map (λ e. e.now) o) c.in-Some.is) ∙ c.pick-number.ensures.event in
    let caps = picked-caps g.E.EventLaw.capacities g.E.EventLaw.function system c.caps-caps.ensures.fit c.args.word c.pick-number.result.0 c.in-Some.event.now c.pick-number.ensures.number is in
    c.apply.ensures.within.same_length ∙ ap (λ (xs : List ℕ). length xs) caps ∙ sym c.requires.1.1.1.1.1.queues.sized

pub turn_rewards-requires-clause-within : goal.turn_rewards-requires-clause-within
turn_rewards-requires-clause-within g c =
    let system = c.args.system.now in
    let is : Some c.in-Some.event.now ≡ slice_get system.events (event_of system.rates c.args.word) = sym (ap (λ o. option_map (λ e. e.now) o) c.in-Some.is) ∙ c.pick-number.ensures.event in
    let caps = picked-caps g.E.EventLaw.capacities g.E.EventLaw.function system c.caps-caps.ensures.fit c.args.word c.pick-number.result.0 c.in-Some.event.now c.pick-number.ensures.number is in
    subst (λ (xs : List ℕ). IsBelow c.apply.new.x xs) (caps ∙ sym c.requires.1.1.1.0) c.apply.ensures.within

pub turn_rewards-requires-clause-few : goal.turn_rewards-requires-clause-few
turn_rewards-requires-clause-few g c =
    let stands = c.requires.1.1.1.1.1 in
    rewards-few (g.R.Rewards.worths c.args.rewards.now) (path_of g.E.EventLaw.function c.args.system.now g.course.words g.course.start) stands.walked c.args.self.now.left g.course.steps
    c.args.self.now.state c.args.self.now.rewards.items c.args.self.now.values.items stands.all stands.few stands.rewards

pub returns-clause-stands : goal.returns-clause-stands
returns-clause-stands g c =
    let system = c.args.system.now in
    let fit = c.caps-caps.ensures.fit in
    let path = path_of g.E.EventLaw.function system g.course.words g.course.start in
    let worths = g.R.Rewards.worths c.args.rewards.now in
    let stands = c.requires.1.1.1.1.1 in
    let self = c.args.self.now in
    let k = stands.walked in
    let all = stands.all in
    let some = c.requires.1.1.1.1.0 in
    let n = c.pick-number.result.0 in
    let event = c.in-Some.event.now in
    let number = c.pick-number.ensures.number in
    let at : path.words (first_place + k) ≡ c.args.word = ap (λ j. g.course.words (first_place + j)) (omega arith) ∙ c.requires.1.1.0 in
    let is : Some event ≡ slice_get system.events (event_of system.rates c.args.word) = sym (ap (λ o. option_map (λ e. e.now) o) c.in-Some.is) ∙ c.pick-number.ensures.event in
    let small : n < length path.rates = picked-small g.E.EventLaw.capacities g.E.EventLaw.function system fit c.args.word n event number is in
    let chosen = picked-chosen g.E.EventLaw.capacities g.E.EventLaw.function system fit c.args.word n event number is g.course.words g.course.start k at in
    let next : c.apply.new.x ≡ state_of path (suc k) =
    picked-next g.E.EventLaw.capacities g.E.EventLaw.function system fit c.args.word n event number is g.course.words g.course.start k at self.state c.apply.new.x stands.present c.apply.ensures.value in
    let within : IsBelow c.apply.new.x system.caps =
    picked-below g.E.EventLaw.capacities g.E.EventLaw.function system fit c.args.word n event number is c.apply.new.x c.apply.ensures.within in
    let turned : is_changed path (suc k) ≡ true = changed-is path k self.state c.apply.new.x stands.present next c.eq.result c.eq.ensures ∙ ap not c.if-eq.false in
    let one : self.left ≡ suc (self.left - 1) = omega arith in
    let sized = stands.counts.sized in
    let also_sized = stands.counts.also_sized in
    let read : c.index_mut.result.now ≡ slice_index self.chosen.items n = c.index_mut.ensures.value ∙ get_or_default self.chosen.items n c.index_mut.result.now 0 (omega arith) in
    let also_read : c.index_mut-2.result.now ≡ slice_index self.changed.items n = c.index_mut-2.ensures.value ∙ get_or_default self.changed.items n c.index_mut-2.result.now 0 (omega arith) in
    record {
      walked = suc k;
      all = omega arith;
      few = stands.few;
      present = next;
      within = within;
      queues = queues-next (length system.caps) path k self.left (self.left - 1) self.state c.apply.new.x self.queues.items c.turn_queues.new.sums.items
          one next (few-customers system.caps c.apply.new.x fit.valid within) c.turn_queues.ensures.count c.turn_queues.ensures.sums stands.queues;
      rewards = rewards-next worths path k self.left (self.left - 1) self.state c.apply.new.x self.rewards.items self.values.items c.turn_rewards.new.sums.items c.turn_rewards.new.values.items
          one next c.turn_rewards.ensures.count c.turn_rewards.ensures.value_count c.turn_rewards.ensures.sums c.turn_rewards.ensures.values c.turn_rewards.ensures.small stands.rewards;
      counts = subst (λ v. CountsStand path (suc k) (set self.chosen.items n (v + 1)) (set self.changed.items n (c.index_mut-2.result.now + 1))) (sym read)
          (subst (λ v. CountsStand path (suc k) (set self.chosen.items n (slice_index self.chosen.items n + 1)) (set self.changed.items n (v + 1))) (sym also_read)
          (counts-changed path k n self.chosen.items self.changed.items chosen small turned stands.counts));
    }
