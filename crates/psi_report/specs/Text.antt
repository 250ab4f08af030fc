-- The text of a report, from what it tells: comma-separated rows of three fields (RFC 4180, with a line feed alone at each end).
use Rattle.std.specs.Prelude.{ℕ, ◌-◌, List, [], ◌∷◌, ◌++◌, map, codes}
use Rattle.std.specs.List.{flat_map}
use Rattle.std.specs.Fmt.{decimal, signed_decimal}
use Rattle.csv.specs.Writing.{row_text, default_writer}
use Rattle.psi_report.specs.declared.figure.Item.{Item}
use Rattle.psi_report.specs.declared.figure.Item.TheVariants.{Sum, Least, Greatest, RewardSum, RewardLeast, RewardGreatest}
use Rattle.psi_report.specs.declared.figure.HorizonCount.{HorizonCount}
use Rattle.psi_report.specs.declared.figure.Figure.{Figure}
use Rattle.psi_report.specs.Contents.{Contents}

-- a row: what it tells, of what, and how much it is
abbrev pub row : (item name value : List ℕ) → List (List ℕ)
row item name value = item ∷ name ∷ value ∷ []

-- the heading's row
abbrev pub heading : List (List ℕ)
heading = row (codes "item") (codes "name") (codes "value")

-- the row of a number of samples
abbrev pub samples_row : List ℕ → ℕ → List (List ℕ)
samples_row item n = row item (codes "-") (decimal n)

-- how many samples there are, how many of them are met, and how many aren't
unfoldable pub number_rows : (samples met : ℕ) → List (List (List ℕ))
number_rows samples met =
    samples_row (codes "samples") samples ∷ samples_row (codes "met") met ∷ samples_row (codes "uncoupled") (samples - met) ∷ []

-- a horizon, and how many samples have it
unfoldable pub horizon_row : ℕ → ℕ → List (List ℕ)
horizon_row horizon n = row (codes "horizon") (decimal horizon) (decimal n)

-- the row of a horizon
abbrev pub count_row : HorizonCount → List (List ℕ)
count_row count = horizon_row count.horizon count.count

-- what a row of an item is called
abbrev pub item_text : Item → List ℕ
item_text Sum = codes "sum"
item_text Least = codes "least"
item_text Greatest = codes "greatest"
item_text RewardSum = codes "reward-sum"
item_text RewardLeast = codes "reward-least"
item_text RewardGreatest = codes "reward-greatest"

-- the row of a figure
unfoldable pub figure_row : Figure → List (List ℕ)
figure_row figure = row (item_text figure.item) figure.name (signed_decimal figure.value)

-- all rows: the heading, the numbers of samples, the horizons and the figures
unfoldable pub contents_rows : Contents → List (List (List ℕ))
contents_rows c = heading ∷ (number_rows c.samples c.met ++ (map count_row c.horizons ++ map figure_row c.figures))

-- the text of rows
unfoldable pub rows_text : List (List (List ℕ)) → List ℕ
rows_text rows = flat_map (row_text default_writer) rows

-- the text of a report
unfoldable pub text_of : Contents → List ℕ
text_of c = rows_text (contents_rows c)
