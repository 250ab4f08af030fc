-- The rows of a report, found again in the lines of its text, and what it tells, found again in its rows.
use Rattle.std.specs.Prelude.{◌≡◌, ℕ, zero, suc, ◌+◌, ◌-◌, ◌^◌, ◌<◌, ◌≤◌, ℤ, pos, negsuc, List, [], ◌∷◌, ◌++◌, map, length, take, codes, All, true, Some, None, refl}
use Rattle.std.specs.Fmt.{decimal, signed_decimal}
use Rattle.std.specs.Int.RustNames.{unsigned_abs}
use Rattle.std.specs.List.{flat_map, slice_get, slice_split}
use Rattle.std.proofs.Common.{ap, sym, ◌∙◌, subst, append_assoc, arith}
use Rattle.std.proofs.lemmas.Bool.Decides.{nat_tests}
use Rattle.std.proofs.lemmas.Fmt.{length-decimal-le_wide}
use Rattle.std.proofs.lemmas.List.{append-nil, length-map, length-append}
use Rattle.std.proofs.lemmas.List.Elements.{All-cons, All-head, All-tail, All-map, All-append, All-weaker}
use Rattle.std.proofs.lemmas.Option.{slice_get-map}
use Rattle.csv.specs.Writing.{default_writer, row_text}
use Rattle.psi_net_model.specs.Name.{is_name}
use Rattle.psi_report.specs.Text.{row, horizon_row, rows_text, number_rows, item_text, figure_row, count_row, heading, contents_rows, text_of}
use Rattle.psi_report.specs.declared.figure.Item.{Item}
use Rattle.psi_report.specs.declared.figure.HorizonCount.{HorizonCount}
use Rattle.psi_report.specs.declared.figure.Figure.{Figure}
use Rattle.psi_report.specs.Contents.{Contents}
use Rattle.psi_report_reader.specs.Reading.{is_comma, item_of, IsReport}
use Rattle.psi_report_reader.specs.Lines.{lines_of, BeginAlike, IsNumbered}
use Rattle.psi_report_reader.proofs.DigitLemmas.{count-decimal, integer-signed}
use Rattle.psi_report_reader.proofs.NameLemmas.{name-bytes}
use Rattle.psi_report_reader.proofs.PlainLemmas.{IsPlain, name-bytes-plain, decimal-plain, signed-plain, row-line, line-ends, line-fields}
use Rattle.psi_report_reader.proofs.WalkLemmas.{Alike}

-- what stands between the commas of each line
abbrev fields_of : List ℕ → List (List (List ℕ))
fields_of text = map (slice_split is_comma) (lines_of text)

-- what stands after the last line feed
abbrev pub last_line : List (List (List ℕ))
last_line = ([] ∷ []) ∷ []

-- the fields of rows, whatever follows
abbrev AreFields : List (List (List ℕ)) → Type 0
AreFields rows = (rest : List ℕ) → fields_of (rows_text rows ++ rest) ≡ rows ++ fields_of rest

row-fields : (a b v rest : List ℕ) → All IsPlain a → All IsPlain b → All IsPlain v → fields_of (row_text default_writer (a ∷ b ∷ v ∷ []) ++ rest) ≡ (a ∷ b ∷ v ∷ []) ∷ fields_of rest
row-fields a b v rest first second third =
    cc (row-line a b v rest first second third, line-ends a b v rest first second third, line-fields a b v first second third)

fields-more : (a b v : List ℕ) (rows : List (List (List ℕ))) → All IsPlain a → All IsPlain b → All IsPlain v → AreFields rows → AreFields (row a b v ∷ rows)
unfolding rows_text
fields-more a b v rows first second third behind_it rest =
    cc (
      append_assoc (row_text default_writer (row a b v)) (flat_map (row_text default_writer) rows) rest,
      row-fields a b v (flat_map (row_text default_writer) rows ++ rest) first second third,
      behind_it rest,
    )

-- counts of 64 bits, and figures under names
abbrev pub FitsCount : HorizonCount → Type 0
FitsCount h = (h.horizon < 2 ^ 64) × (h.count < 2 ^ 64)

abbrev pub FitsFigure : Figure → Type 0
FitsFigure f = (is_name f.name ≡ true) × (unsigned_abs f.value < 10 ^ 37)

-- a row of three fields that need no quotes, with at most 97 bytes
pub record IsShort (fields : List (List ℕ)) : Type 0 where
  pub item : List ℕ
  pub name : List ℕ
  pub value : List ℕ
  pub is : fields ≡ item ∷ name ∷ value ∷ []
  pub item_plain : All IsPlain item
  pub name_plain : All IsPlain name
  pub value_plain : All IsPlain value
  pub few : length item + length name + length value ≤ 97

row-short : (a b v : List ℕ) → All IsPlain a → All IsPlain b → All IsPlain v → length a + length b + length v ≤ 97 → IsShort (row a b v)
row-short a b v first second third few = record { item = a; name = b; value = v; is = refl; item_plain = first; name_plain = second; value_plain = third; few = few }

signed-few : (z : ℤ) → unsigned_abs z < 10 ^ 37 → length (signed_decimal z) ≤ 38
signed-few (pos n) fits = (let few = length-decimal-le_wide 37 n (omega arith) fits (omega arith) in omega arith)
signed-few (negsuc n) fits = (let few = length-decimal-le_wide 37 (suc n) (omega arith) fits (omega arith) in omega arith)

name-few : (name : List ℕ) → is_name name ≡ true → length name ≤ 32
unfolding is_name
name-few name is = grind (arith, nat_tests)

figure-short : (f : Figure) → FitsFigure f → IsShort (figure_row f)
unfolding figure_row
figure-short f fits =
    row-short (item_text f.item) f.name (signed_decimal f.value) (name-bytes-plain (item_text f.item) (grind arith)) (name-bytes-plain f.name (name-bytes f.name fits.0)) (signed-plain f.value fits.1)
    (let item : length (item_text f.item) ≤ 15 = grind arith in let name = name-few f.name fits.0 in let value = signed-few f.value fits.1 in omega arith)

count-few : (n : ℕ) → n < 2 ^ 64 → length (decimal n) ≤ 20
count-few n fits = length-decimal-le_wide 20 n (omega arith) (omega arith) (omega arith)

count-short : (h : HorizonCount) → FitsCount h → IsShort (count_row h)
unfolding horizon_row
count-short h fits =
    row-short (codes "horizon") (decimal h.horizon) (decimal h.count) (name-bytes-plain (codes "horizon") refl) (decimal-plain h.horizon (omega arith)) (decimal-plain h.count (omega arith))
    (omega (arith, count-few h.horizon fits.0, count-few h.count fits.1))

number-short : (item : List ℕ) (n : ℕ) → All IsPlain item → length item ≤ 15 → n < 2 ^ 64 → IsShort (row item (codes "-") (decimal n))
number-short item n plain few fits =
    row-short item (codes "-") (decimal n) plain (name-bytes-plain (codes "-") refl) (decimal-plain n (omega arith)) (let number = count-few n fits in omega arith)

pub rows-short : (c : Contents) → IsReport c → All IsShort (contents_rows c)
unfolding contents_rows number_rows
rows-short c is =
    let told = map count_row c.horizons ++ map figure_row c.figures in
    let first = row (codes "samples") (codes "-") (decimal c.samples) in
    let second = row (codes "met") (codes "-") (decimal c.met) in
    let third = row (codes "uncoupled") (codes "-") (decimal (c.samples - c.met)) in
    All-cons IsShort heading (first ∷ second ∷ third ∷ told)
    (row-short (codes "item") (codes "name") (codes "value") (name-bytes-plain (codes "item") refl) (name-bytes-plain (codes "name") refl) (name-bytes-plain (codes "value") refl) (omega arith))
    (All-cons IsShort first (second ∷ third ∷ told) (number-short (codes "samples") c.samples (name-bytes-plain (codes "samples") refl) (omega arith) is.samples)
    (All-cons IsShort second (third ∷ told) (number-short (codes "met") c.met (name-bytes-plain (codes "met") refl) (omega arith) is.met)
    (All-cons IsShort third told (number-short (codes "uncoupled") (c.samples - c.met) (name-bytes-plain (codes "uncoupled") refl) (omega arith) (omega arith))
    (All-append IsShort (map count_row c.horizons) (map figure_row c.figures)
    (All-map IsShort count_row c.horizons (All-weaker FitsCount (λ h. IsShort (count_row h)) count-short c.horizons is.horizons))
    (All-map IsShort figure_row c.figures (All-weaker FitsFigure (λ f. IsShort (figure_row f)) figure-short c.figures is.figures))))))

fields-all : (rows : List (List (List ℕ))) → All IsShort rows → AreFields rows
unfolding rows_text
fields-all [] all = λ rest. refl
fields-all (r ∷ rows) all =
    let is = All-head IsShort r rows all in
    subst (λ (fields : List (List ℕ)). AreFields (fields ∷ rows)) (sym is.is)
    (fields-more is.item is.name is.value rows is.item_plain is.name_plain is.value_plain (fields-all rows (All-tail IsShort r rows all)))

pub text-fields : (c : Contents) → IsReport c → fields_of (text_of c) ≡ contents_rows c ++ last_line
unfolding text_of
text-fields c is = ap fields_of (sym (append-nil (rows_text (contents_rows c)))) ∙ fields-all (contents_rows c) (rows-short c is) []

get-take : {A : Type 0} (n : ℕ) (xs : List A) (j : ℕ) → j < n → slice_get (take n xs) j ≡ slice_get xs j
get-take zero xs j less = absurd (omega arith)
get-take (suc n) [] j less = refl
get-take (suc n) (x ∷ xs) zero less = refl
get-take (suc n) (x ∷ xs) (suc j) less = get-take n xs j (omega arith)

-- so texts with the same first lines have the same first rows
pub rows-alike : (n : ℕ) (c d : Contents) → IsReport c → IsReport d → BeginAlike n (text_of c) (text_of d) → Alike n (contents_rows c ++ last_line) (contents_rows d ++ last_line)
rows-alike n c d is other alike j less =
    let own = lines_of (text_of c) in
    let others = lines_of (text_of d) in
    cc (text-fields c is, text-fields d other, slice_get-map (slice_split is_comma) own j, slice_get-map (slice_split is_comma) others j, get-take n own j less, get-take n others j less)

-- and there is a line for each row, and one more
pub lines-count : (c : Contents) → IsReport c → length (lines_of (text_of c)) ≡ 5 + (length c.horizons + length c.figures)
unfolding contents_rows number_rows
lines-count c is = (let rows = simp (length-append, length-map) at (ap length (text-fields c is)) in omega arith)

pub lines-few : (c : Contents) → IsNumbered c → 5 + (length c.horizons + length c.figures) < 2 ^ 62
lines-few c numbered = (let count = lines-count c numbered.report in let few = numbered.few in omega arith)

-- ---- what a row tells

item-again : (item : Item) → item_of (item_text item) ≡ Some item
unfolding item_of
item-again item = grind arith

item-horizon : item_of (codes "horizon") ≡ None
unfolding item_of
item-horizon = refl

pub number-same : (m n : ℕ) (item : List ℕ) → m < 2 ^ 64 → n < 2 ^ 64 → row item (codes "-") (decimal m) ≡ row item (codes "-") (decimal n) → m ≡ n
number-same m n item first second same = cc (count-decimal m first, count-decimal n second)

pub count-record : (s t m n : ℕ) → s ≡ t → m ≡ n → ◌≡◌ {A = HorizonCount} (record { horizon = s; count = m }) (record { horizon = t; count = n })
count-record s t m n one two = rw (one, two) refl

pub figure-record : (i j : Item) (a b : List ℕ) (y z : ℤ) → i ≡ j → a ≡ b → y ≡ z → ◌≡◌ {A = Figure} (record { item = i; name = a; value = y }) (record { item = j; name = b; value = z })
figure-record i j a b y z one two three = rw (one, two, three) refl

pub count-same : (g h : HorizonCount) → FitsCount g → FitsCount h → count_row g ≡ count_row h → g ≡ h
unfolding horizon_row
count-same g h first second same =
    count-record g.horizon h.horizon g.count h.count (cc (count-decimal g.horizon first.0, count-decimal h.horizon second.0)) (cc (count-decimal g.count first.1, count-decimal h.count second.1))

pub figure-same : (f g : Figure) → FitsFigure f → FitsFigure g → figure_row f ≡ figure_row g → f ≡ g
unfolding figure_row
figure-same f g first second same =
    figure-record f.item g.item f.name g.name f.value g.value (cc (item-again f.item, item-again g.item)) (cc) (cc (integer-signed f.value first.1, integer-signed g.value second.1))

pub count-figure : (h : HorizonCount) (f : Figure) → count_row h ≡ figure_row f → ⊥
unfolding horizon_row figure_row
count-figure h f same = absurd (cc (item-horizon, item-again f.item))

pub count-last : (h : HorizonCount) → count_row h ≡ [] ∷ [] → ⊥
unfolding horizon_row
count-last h same = absurd cc

pub figure-last : (f : Figure) → figure_row f ≡ [] ∷ [] → ⊥
unfolding figure_row
figure-last f same = absurd cc
