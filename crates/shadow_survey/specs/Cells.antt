-- The cells of a row: the scheme, its costs and the judgement.
use Rattle.std.specs.Prelude.{ℕ, List, [], ◌++◌, Option, Some, None, codes, decimal}
use Rattle.scheme_list.specs.Schemes.{row_of}
use Rattle.scheme_list.specs.declared.schemes.CostFamily.{CostFamily}
use Rattle.scheme_list.specs.declared.schemes.CostFamily.TheVariants as family
use Rattle.any_check.specs.declared.numbers.Costs.{Costs}
use Rattle.any_check.specs.declared.numbers.TextCosts.{TextCosts}
use Rattle.shadow_survey.specs.Leasts.{memory}
use Rattle.shadow_survey.specs.Unsupported.{row}
use Rattle.shadow_survey.specs.declared.cells.Format.{Format}
use Rattle.shadow_survey.specs.declared.cells.Format.TheVariants.{Tabs, Csv, Json}
use Rattle.shadow_survey.specs.declared.least.Weakness.{Weakness}
use Rattle.shadow_survey.specs.declared.least.Weakness.TheVariants as weak
use Rattle.shadow_survey.specs.declared.judgement.Judgement.{Judgement}
use Rattle.shadow_survey.specs.declared.judgement.Judgement.TheVariants.{BadLine, Empty, Invalid, Locked, Strong, TooLong, Unsupported, Weak}

-- the scheme and the costs of a text that has them
abbrev pub costs_in : Judgement → Option TextCosts
costs_in (Strong text) = Some text
costs_in (Weak text what) = Some text
costs_in Empty = None
costs_in Locked = None
costs_in (Unsupported form) = None
costs_in Invalid = None
costs_in BadLine = None
costs_in TooLong = None

-- what a cell has where there is nothing to tell: `null` is JSON's (RFC 8259, section 3)
abbrev pub nothing : Format → List ℕ
nothing Tabs = codes "-"
nothing Csv = []
nothing Json = codes "null"

-- ---- the scheme

-- its name; a string in JSON
abbrev pub name_text : Format → List ℕ → List ℕ
name_text Tabs name = name
name_text Csv name = name
name_text Json name = (codes "\"" ++ name) ++ codes "\""

abbrev pub scheme_cell : Format → Option TextCosts → List ℕ
scheme_cell format None = nothing format
scheme_cell format (Some text) = name_text format (row_of text.scheme).name

-- ---- its costs

-- what is before the first number, by its name; before another one; and after the last: an object in JSON
abbrev pub first_key : Format → List ℕ → List ℕ
first_key Tabs name = name ++ codes "="
first_key Csv name = name ++ codes "="
first_key Json name = codes "{\"" ++ (name ++ codes "\":")

abbrev pub next_key : Format → List ℕ → List ℕ
next_key Tabs name = codes "," ++ (name ++ codes "=")
next_key Csv name = codes "," ++ (name ++ codes "=")
next_key Json name = codes ",\"" ++ (name ++ codes "\":")

abbrev pub closed : Format → List ℕ
closed Tabs = []
closed Csv = []
closed Json = codes "}"

-- one number, and three
abbrev pub one : Format → List ℕ → ℕ → List ℕ
one format a x = (first_key format a ++ decimal x) ++ closed format

abbrev pub three : Format → List ℕ → ℕ → List ℕ → ℕ → List ℕ → ℕ → List ℕ
three format a x b y c z =
    (((((first_key format a ++ decimal x) ++ next_key format b) ++ decimal y) ++ next_key format c) ++ decimal z) ++ closed format

-- the numbers by their names; md5-crypt has none
abbrev pub numbers_text : Format → CostFamily → Costs → List ℕ
numbers_text format family.NoNumber c = nothing format
numbers_text format family.ShaCrypt c = one format (codes "rounds") c.rounds
numbers_text format family.Bcrypt c = one format (codes "cost") c.cost
numbers_text format family.Yescrypt c = three format (codes "ln") c.ln (codes "r") c.r (codes "t") c.t
numbers_text format family.Scrypt c = three format (codes "ln") c.ln (codes "r") c.r (codes "p") c.p
numbers_text format family.Pbkdf2Sha256 c = one format (codes "rounds") c.rounds
numbers_text format family.Pbkdf2Sha512 c = one format (codes "rounds") c.rounds
numbers_text format family.Argon2 c = three format (codes "m") c.m (codes "t") c.t (codes "p") c.p

abbrev pub cost_cell : Format → Option TextCosts → List ℕ
cost_cell format None = nothing format
cost_cell format (Some text) = numbers_text format (row_of text.scheme).family text.costs

-- ---- the judgement

-- how often the memory is gone through: the passes of Argon2, the parts of scrypt
abbrev pub turns : CostFamily → Costs → List ℕ
turns family.Argon2 c = codes "weak: t=" ++ decimal c.t
turns other c = codes "weak: p=" ++ decimal c.p

-- what is weak of a text
abbrev pub weakness_text : Weakness → TextCosts → List ℕ
weakness_text weak.Scheme text = codes "weak: " ++ (row_of text.scheme).name
weakness_text weak.Rounds text = (codes "weak: " ++ decimal text.costs.rounds) ++ codes " rounds"
weakness_text weak.Cost text = codes "weak: cost " ++ decimal text.costs.cost
weakness_text weak.Memory text =
    (codes "weak: " ++ decimal (memory (row_of text.scheme).family text.costs)) ++ codes " KiB"
weakness_text weak.Work text =
    ((turns (row_of text.scheme).family text.costs ++ codes " over ")
    ++ decimal (memory (row_of text.scheme).family text.costs)) ++ codes " KiB"

abbrev pub judgement_cell : Judgement → List ℕ
judgement_cell (Strong text) = codes "ok"
judgement_cell (Weak text what) = weakness_text what text
judgement_cell Empty = codes "empty"
judgement_cell Locked = codes "locked"
judgement_cell (Unsupported form) = codes "unsupported: " ++ (row form).name
judgement_cell Invalid = codes "invalid"
judgement_cell BadLine = codes "badline"
judgement_cell TooLong = codes "toolong"
