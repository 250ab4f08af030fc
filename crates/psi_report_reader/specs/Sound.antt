-- What the rows of a report keep: counts that add up, horizons that ascend, the figures of queues and rewards one after another, each sum within
-- what its extremes allow, and rewards that vary only where a queue does.
use Rattle.std.specs.Prelude.{◌≡◌, ℕ, ◌+◌, ◌-◌, ◌^◌, ℤ, pos, ◌+ℤ◌, ◌*ℤ◌, ◌≤ℤ◌, ◌<◌, List, [], ◌∷◌, ◌++◌, length, count_by, min, not, Bool, true, false, ◌&&◌, ◌==◌, nat_le, nat_lt, int_le, unsigned_abs, Option, Some, None, if◌then◌else◌}
use Rattle.std.specs.Int.{is_power_of_two}
use Rattle.std.specs.List.{list_all}
use Rattle.std.specs.Ordering.{int_eq}
use Rattle.std.specs.Str.{bytes_eq}
use Rattle.psi_reward.specs.Ranges.{least, greatest}
use Rattle.psi_state.specs.declared.Outcome.{Outcome}
use Rattle.psi_net_model.specs.Network.{Network}
use Rattle.psi_report.specs.Quantities.{sum_of}
use Rattle.psi_report.specs.declared.figure.Item.{Item}
use Rattle.psi_report.specs.declared.figure.Item.TheVariants.{Sum, Least, Greatest, RewardSum, RewardLeast, RewardGreatest}
use Rattle.psi_report.specs.declared.figure.HorizonCount.{HorizonCount}
use Rattle.psi_report.specs.declared.figure.Figure.{Figure}
use Rattle.psi_report.specs.Contents.{Contents}
use Rattle.psi_report.specs.Report.{contents_of}
use Rattle.psi_report_reader.specs.Samples.{AreOf}

-- ---- horizons

-- a horizon of a sample: a power of two, at most 2^22
abbrev pub is_horizon : ℕ → Bool
is_horizon t = is_power_of_two t && nat_le t 4194304

-- a number is above the one before it, where there is one
abbrev pub is_above : Option ℕ → ℕ → Bool
is_above None t = true
is_above (Some s) t = nat_lt s t

-- a count may come: its horizon is one and is above the one before, and some of those that are left have it
abbrev pub is_next : Option ℕ → ℕ → HorizonCount → Bool
is_next last left c = (is_horizon c.horizon && is_above last c.horizon) && (nat_lt 0 c.count && nat_le c.count left)

-- the first place, from k on, of a count that may not come; the place after all where some samples are left
abbrev pub horizons_flaw : ℕ → Option ℕ → ℕ → List HorizonCount → Option ℕ
horizons_flaw k last left [] = if left == 0 then None else Some k
horizons_flaw k last left (c ∷ cs) = if is_next last left c then horizons_flaw (k + 1) (Some c.horizon) (left - c.count) cs else Some k

-- ---- the order of figures

-- an item may follow another: a sum the greatest value before it, or where no sample is met the sum before it, and no queue a reward;
-- where samples are met, the least value a sum, and the greatest the least
abbrev pub may_follow : Bool → Item → Item → Bool
may_follow true Sum Least = true
may_follow true Least Greatest = true
may_follow true Greatest Sum = true
may_follow true Greatest RewardSum = true
may_follow true RewardSum RewardLeast = true
may_follow true RewardLeast RewardGreatest = true
may_follow true RewardGreatest RewardSum = true
may_follow false Sum Sum = true
may_follow false Sum RewardSum = true
may_follow false RewardSum RewardSum = true
may_follow _ _ _ = false

-- a queue or a reward begins with its sum
abbrev pub is_sum : Item → Bool
is_sum Sum = true
is_sum RewardSum = true
is_sum _ = false

-- the first figure is the sum of a queue
abbrev pub may_begin : Item → Bool
may_begin Sum = true
may_begin _ = false

-- the figures may end with an item: with the greatest value, or where no sample is met with a sum
abbrev pub may_end : Bool → Item → Bool
may_end true Greatest = true
may_end true RewardGreatest = true
may_end false Sum = true
may_end false RewardSum = true
may_end _ _ = false

-- ---- names

-- both are sums of a queue, or both of a reward
abbrev pub same_sum : Item → Item → Bool
same_sum Sum Sum = true
same_sum RewardSum RewardSum = true
same_sum _ _ = false

-- two sums are of the same queue or reward
abbrev pub is_alike : Figure → Figure → Bool
is_alike f g = same_sum f.item g.item && bytes_eq f.name g.name

-- the most rewards that a network has, or the most queues
abbrev pub most_of : Item → ℕ
most_of RewardSum = 64
most_of _ = 32

-- a sum may come after figures: none of them is of the same queue or reward, and those of its kind are fewer than there may be
abbrev pub is_new : List Figure → Figure → Bool
is_new before f = list_all (λ e. not (is_alike e f)) before && nat_lt (count_by (λ e. same_sum e.item f.item) before) (most_of f.item)

-- ---- values

-- a number of customers: 0 to 65,535
abbrev pub is_customers : ℤ → Bool
is_customers z = int_le (pos 0) z && int_le z (pos 65535)

-- what a reward may make of a state: a magnitude of at most 32 queues times 65,535 customers times a weight of 10^9
abbrev pub is_reward_value : ℤ → Bool
is_reward_value z = nat_le (unsigned_abs z) 2097120000000000

-- a value that the least or the greatest may have; a sum is neither
abbrev pub is_extreme : Item → ℤ → Bool
is_extreme Least z = is_customers z
is_extreme Greatest z = is_customers z
is_extreme RewardLeast z = is_reward_value z
is_extreme RewardGreatest z = is_reward_value z
is_extreme _ z = false

-- the greatest value isn't below the least, which stands before it
abbrev pub is_ordered : Item → ℤ → ℤ → Bool
is_ordered Greatest y z = int_le y z
is_ordered RewardGreatest y z = int_le y z
is_ordered _ y z = true

-- an extreme may follow a figure: it is of the same queue or reward, in its range, and not below the least where it is the greatest
abbrev pub extreme_follows : Figure → Figure → Bool
extreme_follows e f = bytes_eq e.name f.name && (is_extreme f.item f.value && is_ordered f.item e.value f.value)

-- what n values come to, all of which are a but for one, which is b
abbrev pub all_but_one : ℕ → ℤ → ℤ → ℤ
all_but_one n a b = pos (n - 1) *ℤ a +ℤ b

-- n values of which low is the least and high the greatest may have a sum: it isn't below that of one high value and low ones, nor above that of one low value and high ones
abbrev pub allows : ℕ → ℤ → ℤ → ℤ → Bool
allows n low high sum = int_le (all_but_one n low high) sum && int_le sum (all_but_one n high low)

-- n values with this least, this greatest and this sum
pub record AreSummed (n : ℕ) (low high sum : ℤ) (values : List ℤ) : Type 0 where
  pub count : length values ≡ n
  pub low_is : least values ≡ low
  pub high_is : greatest values ≡ high
  pub sum_is : sum_of values ≡ sum

-- there are such values wherever they are allowed
abbrev pub SumsAreReached : Type 0
SumsAreReached = (n : ℕ) (low high sum : ℤ) → 0 < n → low ≤ℤ high → allows n low high sum ≡ true → (values : List ℤ) × AreSummed n low high sum values

-- two figures are the extremes of a sum, and may stand after it
abbrev pub are_extremes : Figure → Figure → Figure → Bool
are_extremes f l g = (may_follow true f.item l.item && may_follow true l.item g.item) && (extreme_follows f l && extreme_follows l g)

-- a sum agrees with its extremes, where two figures are these
abbrev pub agrees_with : ℕ → Figure → Figure → Figure → Bool
agrees_with n f l g = if are_extremes f l g then allows n l.value g.value f.value else true

-- and with the figures that stand after it, of which the first two may be its extremes
abbrev pub agrees_behind : ℕ → Figure → List Figure → Bool
agrees_behind n f (l ∷ g ∷ fs) = agrees_with n f l g
agrees_behind n f _ = true

-- the sum of no values is 0; that of n values agrees with their extremes
abbrev pub agrees : ℕ → Figure → List Figure → Bool
agrees n f fs = if n == 0 then unsigned_abs f.value == 0 else agrees_behind n f fs

-- ---- figures

-- a sum may stand after figures and before others
abbrev pub sum_stands : ℕ → List Figure → Figure → List Figure → Bool
sum_stands n before f fs = is_new before f && agrees n f fs

-- of n samples that are met, a figure may stand after others, of which e is the last, and before others
abbrev pub may_stand : ℕ → List Figure → Figure → Figure → List Figure → Bool
may_stand n before e f fs = may_follow (nat_lt 0 n) e.item f.item && (if is_sum f.item then sum_stands n before f fs else extreme_follows e f)

-- the first place of a figure that may not stand after those before it, of which e is the last; the place after all where they may not end so
abbrev pub flaw_behind : ℕ → List Figure → Figure → List Figure → Option ℕ
flaw_behind n before e [] = if may_end (nat_lt 0 n) e.item then None else Some (length before)
flaw_behind n before e (f ∷ fs) = if may_stand n before e f fs then flaw_behind n (before ++ f ∷ []) f fs else Some (length before)

-- the first place of a figure that may not stand there, where n samples are met; there is one queue at least
abbrev pub figures_flaw : ℕ → List Figure → Option ℕ
figures_flaw n [] = Some 0
figures_flaw n (f ∷ fs) = if may_begin f.item && sum_stands n [] f fs then flaw_behind n (f ∷ []) f fs else Some 0

-- ---- rewards where no queue varies

-- the greatest of a queue's or a reward's values
abbrev pub is_greatest : Item → Bool
is_greatest Greatest = true
is_greatest RewardGreatest = true
is_greatest _ = false

-- values aren't all the same: the greatest of them isn't the least, which stands before it
abbrev pub varies : Figure → Figure → Bool
varies e f = is_greatest f.item && not (int_eq e.value f.value)

-- a place where the greatest value is a reward's
abbrev pub if_reward : Item → ℕ → Option ℕ
if_reward RewardGreatest k = Some k
if_reward _ k = None

-- the first place, from k on, of the greatest of values that aren't all the same, after a figure e, where it is a reward's: none of the queues before it varies
abbrev pub varying_behind : ℕ → Figure → List Figure → Option ℕ
varying_behind k e [] = None
varying_behind k e (f ∷ fs) = if varies e f then if_reward f.item k else varying_behind (k + 1) f fs

-- the first place of a reward's greatest value that isn't its least, though each queue's is: samples that are met in one state have one value of each reward
abbrev pub varying_reward : List Figure → Option ℕ
varying_reward [] = None
varying_reward (f ∷ fs) = varying_behind 1 f fs

-- the first of two places, where there are any
abbrev pub first_of : Option ℕ → Option ℕ → Option ℕ
first_of None k = k
first_of (Some j) None = Some j
first_of (Some j) (Some k) = Some (min j k)

-- the first place of a figure that no report of n samples that are met has there
abbrev pub first_flaw : ℕ → List Figure → Option ℕ
first_flaw n figures = first_of (figures_flaw n figures) (varying_reward figures)

-- ---- lines

-- a line, which stands still at the greatest number of 64 bits
abbrev pub line_at : ℕ → ℕ
line_at n = min n (2 ^ 64 - 1)

-- the line of the k-th horizon, k from 0: after the heading and three numbers of samples
abbrev pub horizon_line : ℕ → ℕ
horizon_line k = line_at (5 + k)

-- the line of the k-th figure, k from 0: after the horizons
abbrev pub figure_line : Contents → ℕ → ℕ
figure_line c k = line_at (5 + length c.horizons + k)

-- the line of a figure, where there is one
abbrev pub figures_line : Contents → Option ℕ → Option ℕ
figures_line c None = None
figures_line c (Some k) = Some (figure_line c k)

-- the line of a horizon; else that of a figure
abbrev pub rows_line : Contents → Option ℕ → Option ℕ
rows_line c (Some k) = Some (horizon_line k)
rows_line c None = figures_line c (first_flaw c.met c.figures)

-- the first line of a report that no report of samples has there; none where there is no such line
unfoldable pub flaw_of : Contents → Option ℕ
flaw_of c = if nat_lt c.samples c.met then Some 3 else rows_line c (horizons_flaw 0 None c.met c.horizons)

-- the report of samples of a network has none
abbrev pub ReportIsSound : Type 0
ReportIsSound = (net : Network) (outcomes : List Outcome) → AreOf net outcomes → flaw_of (contents_of net outcomes) ≡ None
