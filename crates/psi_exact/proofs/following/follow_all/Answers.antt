-- Answers in the proof of `follow_all`.
use Rattle.std.proofs.Common.{◌≡◌, ℕ, suc, List, [], ◌∷◌, ◌++◌, ◌+◌, ◌*◌, ◌/◌, ◌%◌, ◌^◌, length, ap, sym, ◌∙◌, subst, arith}
use Rattle.psi_rate.specs.Composition.{compose, system_functions}
use Rattle.psi_rate.proofs.DoublingLemmas.{shift-power}
use Rattle.psi_rate.proofs.LeastLemmas.{has_none_below-one}
use Rattle.psi_rate.specs.Outcomes.{meeting_at}
use Rattle.psi_exact.specs.declared.answers.Meeting.{Meeting}
use Rattle.psi_exact.specs.Mapping.{map_of}
use Rattle.psi_exact.specs.Sizes.{sizes_before}
use Rattle.psi_exact.specs.Inner.RankTableKept.{IsFollowed}
use Rattle.psi_exact.specs.Surveys.{IsMeeting}
use Rattle.psi_exact.proofs.SizesLemmas.{sizes-next, length-sizes}
use Rattle.psi_exact.proofs.SurveysLemmas.{size-of, half-shift, half-next, meeting_of-is}
use Rattle.psi_exact.proofs.following.follow_all.Goals as goal

pub follow-found-requires-clause-followed : goal.follow-found-requires-clause-followed
follow-found-requires-clause-followed g c =
    let system = c.args.learned.now.system.now in
    record {
      map = c.reset.ensures ∙ ap (λ (caps : List ℕ). map_of caps (λ x. x)) c.requires.same_caps;
      found = has_none_below-one (meeting_at (system_functions g.E.EventLaw.function system (g.P.Past.words c.args.past.now)) system.caps);
    }

pub loop-exponent-init : goal.loop-exponent-init
loop-exponent-init g c =
    let system = c.args.learned.now.system.now in
    let after = c.follow-found in
    let map = after.ensures.followed.map ∙ ap (λ (w : ℕ → ℕ). map_of system.caps (compose (system_functions g.E.EventLaw.function system w) 1)) after.ensures.words in
    record {
      followed = record { map = c.image_size.ensures.same ∙ after.ensures.followed.map; found = after.ensures.followed.found };
      sizes = c.one-sizes.ensures
          ∙ ap (λ n. n ∷ []) (size-of system.caps (compose (system_functions g.E.EventLaw.function system (g.P.Past.words c.args.past.now)) 1) after.new.table c.image_size.result map c.image_size.ensures.size);
      words = after.ensures.words;
    }

pub follow-found-requires-in-loop-exponent-clause-followed : goal.follow-found-requires-in-loop-exponent-clause-followed
follow-found-requires-in-loop-exponent-clause-followed g c =
    let system = c.args.learned.now.system.now in
    let test = c.loop-exponent-test.true in
    let most = c.requires.most in
    subst (λ n. IsFollowed (system_functions g.E.EventLaw.function system (g.P.Past.words c.loop-exponent.past)) system.caps n c.loop-exponent.table c.loop-exponent.found)
    (sym (half-shift c.loop-exponent.exponent (omega arith))) c.loop-exponent.invariant.followed

pub push-requires : goal.push-requires
push-requires g c =
    let system = c.args.learned.now.system.now in
    let test = c.loop-exponent-test.true in
    let most = c.requires.most in
    let count : length c.loop-exponent.sizes ≡ c.loop-exponent.exponent =
    ap (λ (xs : List ℕ). length xs) c.loop-exponent.invariant.sizes
    ∙ length-sizes (system_functions g.E.EventLaw.function system (g.P.Past.words c.args.past.now)) system.caps c.loop-exponent.exponent in
    omega arith

pub loop-exponent-preserved : goal.loop-exponent-preserved
loop-exponent-preserved g c =
    let system = c.args.learned.now.system.now in
    let f = system_functions g.E.EventLaw.function system (g.P.Past.words c.args.past.now) in
    let k = c.loop-exponent.exponent in
    let test = c.loop-exponent-test.true in
    let most = c.requires.most in
    let power = shift-power k (omega arith) in
    let after = c.follow-found-in-loop-exponent in
    let words = after.ensures.words ∙ c.loop-exponent.invariant.words in
    let followed = subst (λ n. IsFollowed (system_functions g.E.EventLaw.function system (g.P.Past.words after.new.past)) system.caps n after.new.table after.result)
    (power ∙ sym (half-next k)) after.ensures.followed in
    let map = after.ensures.followed.map
    ∙ (ap (λ (w : ℕ → ℕ). map_of system.caps (compose (system_functions g.E.EventLaw.function system w) (1 * 2 ^ k % 4294967296))) words ∙ ap (λ n. map_of system.caps (compose f n)) power) in
    let size = size-of system.caps (compose f (2 ^ k)) after.new.table c.image_size-in-loop-exponent.result map c.image_size-in-loop-exponent.ensures.size in
    record {
      followed = record { map = c.image_size-in-loop-exponent.ensures.same ∙ followed.map; found = followed.found };
      sizes = c.push.ensures
          ∙ (ap (λ (xs : List ℕ). xs ++ c.image_size-in-loop-exponent.result ∷ []) c.loop-exponent.invariant.sizes
          ∙ sizes-next f system.caps k c.image_size-in-loop-exponent.result size);
      words = words;
    }

pub returns-clause-sizes : goal.returns-clause-sizes
returns-clause-sizes g c =
    let system = c.args.learned.now.system.now in
    let end : c.loop-exponent.exponent ≡ suc c.args.h = omega arith in
    c.loop-exponent.invariant.sizes
    ∙ ap (λ n. sizes_before (system_functions g.E.EventLaw.function system (g.P.Past.words c.args.past.now)) system.caps n) end

pub returns-clause-least : goal.returns-clause-least
returns-clause-least g c =
    let system = c.args.learned.now.system.now in
    let run = meeting_at (system_functions g.E.EventLaw.function system (g.P.Past.words c.args.past.now)) system.caps in
    let end : c.loop-exponent.exponent ≡ c.args.h + 1 = omega arith in
    let followed = subst (λ n. IsFollowed (system_functions g.E.EventLaw.function system (g.P.Past.words c.loop-exponent.past)) system.caps n c.loop-exponent.table c.loop-exponent.found)
    (ap (λ n. 2 ^ n / 2) end ∙ half-next c.args.h) c.loop-exponent.invariant.followed in
    subst (λ (m : Meeting). IsMeeting run c.args.h m) (sym c.told.ensures) (meeting_of-is run c.args.h c.loop-exponent.found
    (subst (λ (w : ℕ → ℕ). IsFollowed (system_functions g.E.EventLaw.function system w) system.caps (2 ^ c.args.h) c.loop-exponent.table c.loop-exponent.found)
    c.loop-exponent.invariant.words followed).found)

pub returns-clause-map : goal.returns-clause-map
returns-clause-map g c =
    let system = c.args.learned.now.system.now in
    let end : c.loop-exponent.exponent ≡ c.args.h + 1 = omega arith in
    c.loop-exponent.invariant.followed.map
    ∙ (ap (λ n. map_of system.caps (compose (system_functions g.E.EventLaw.function system (g.P.Past.words c.loop-exponent.past)) n)) (ap (λ n. 2 ^ n / 2) end ∙ half-next c.args.h)
    ∙ ap (λ (w : ℕ → ℕ). map_of system.caps (compose (system_functions g.E.EventLaw.function system w) (2 ^ c.args.h))) c.loop-exponent.invariant.words)
