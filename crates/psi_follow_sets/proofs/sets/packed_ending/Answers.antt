-- Answers in the proof of `packed_ending`.
use Rattle.std.proofs.Common.{◌≡◌, map, take, length, rules, refl, sym, ◌∙◌, subst, arith}
use Rattle.std.proofs.lemmas.List.{length-take-le}
use Rattle.psi_state.specs.State.{zeros}
use Rattle.psi_event.proofs.NumbersLemmas.{events-left}
use Rattle.psi_region.specs.Followed.{follow_areas, unsplit}
use Rattle.psi_follow_packed.specs.Views.{low_words, high_words}
use Rattle.psi_follow_sets.proofs.BoxesLemmas.{whole-corners}
use Rattle.psi_follow_sets.proofs.MeetingLemmas.{told-ending}
use Rattle.psi_follow_sets.proofs.sets.packed_ending.Goals as goal

pub follow_until_few-left-requires : goal.follow_until_few-left-requires
follow_until_few-left-requires g c =
    let caps = c.args.course.now.caps in
    let p = c.args.machine.now.program.packing in
    let pack = c.pack-corners in
    let whole = whole-corners g.row.K p caps c.caps-caps.result c.zero.result (low_words pack.result) (high_words pack.result) c.len.result c.requires.machine.program.same_caps c.caps-caps.ensures.value
    c.len.ensures.value c.zero.ensures pack.ensures.low pack.ensures.high in
    (search rules, (search rules, record { machine = c.requires.machine; events = c.requires.numbers; corners = record { of = record { lo = zeros caps; hi = caps }; corners = whole } }))

pub slice_bounds-coalescence_of_few-end : goal.slice_bounds-coalescence_of_few-end
slice_bounds-coalescence_of_few-end g c =
    let caps = c.args.course.now.caps in
    let pack = c.pack-corners in
    let begun = whole-corners g.row.K c.args.machine.now.program.packing caps c.caps-caps.result c.zero.result (low_words pack.result) (high_words pack.result) c.len.result
    c.requires.machine.program.same_caps c.caps-caps.ensures.value c.len.ensures.value c.zero.ensures pack.ensures.low pack.ensures.high in
    let run = c.follow_until_few-left.ensures.run (zeros caps) caps begun in
    sym (length-take-le c.follow_until_few-left.result c.args.numbers.now run.left)

pub coalescence_of_few-requires : goal.coalescence_of_few-requires
coalescence_of_few-requires g c =
    let caps = c.args.course.now.caps in
    let count = length (map g.E.EventLaw.function c.args.course.now.events) in
    let pack = c.pack-corners in
    let begun = whole-corners g.row.K c.args.machine.now.program.packing caps c.caps-caps.result c.zero.result (low_words pack.result) (high_words pack.result) c.len.result
    c.requires.machine.program.same_caps c.caps-caps.ensures.value c.len.ensures.value c.zero.ensures pack.ensures.low pack.ensures.high in
    let run = c.follow_until_few-left.ensures.run (zeros caps) caps begun in
    let events = events-left count count c.follow_until_few-left.result c.args.numbers.now c.requires.numbers run.left refl in (
      search rules,
      (
        search rules,
        (
          c.caps-caps.ensures.closed,
          record { machine = c.requires.machine; events = record { each = events }; corners = record { of = run.to; corners = run.corners } },
        ),
      ),
    )

pub returns-clause-ending : goal.returns-clause-ending
returns-clause-ending g c =
    let course = c.args.course.now in
    let functions = map g.E.EventLaw.function course.events in
    let left = c.follow_until_few-left.result in
    let pack = c.pack-corners in
    let begun = whole-corners g.row.K c.args.machine.now.program.packing course.caps c.caps-caps.result c.zero.result (low_words pack.result) (high_words pack.result) c.len.result
    c.requires.machine.program.same_caps c.caps-caps.ensures.value c.len.ensures.value c.zero.ensures pack.ensures.low pack.ensures.high in
    let run = c.follow_until_few-left.ensures.run (zeros course.caps) course.caps begun in
    let same : c.from-split.result ≡ course.split = c.from-split.ensures ∙ c.split.ensures.value in
    told-ending course.split functions c.args.numbers.now left run.to course.caps c.coalescence_of_few.result (omega (arith, c.split.ensures.value, c.split.ensures.some))
    (λ many. c.follow_until_few-left.ensures.all run.to.lo run.to.hi run.corners (omega (arith, many, same)))
    (subst (λ n. follow_areas n functions (take left c.args.numbers.now) (unsplit run.to) ≡ follow_areas n functions c.args.numbers.now (unsplit (record { lo = zeros course.caps; hi = course.caps }))) same run.same)
    (record { few = c.coalescence_of_few.ensures.few run.to.lo run.to.hi run.corners; many = c.coalescence_of_few.ensures.many run.to.lo run.to.hi run.corners })
