-- Three programs and a check that the tests run.
--
-- Notes: a program whose replies depend on the lines before. It keeps lines, and `list` lists them.
use Rattle.std.specs.Prelude.{ℕ, Bool, true, false, ◌&&◌, ◌==◌, not, List, [], ◌∷◌, ◌++◌, length, nat_lt, nat_le, codes}
use Rattle.std.specs.Prelude.{bytes_eq, nat_eq, if◌then◌else◌, Option, Some, None}
use Rattle.std.specs.Cmp.Lexicographic.{pointwise}
use Rattle.std.specs.List.{flat_map}
use Rattle.line_program.specs.Rules.{StateRules}
use Rattle.line_io.specs.Limits.{line_max}

-- the line `list`
abbrev pub is_list : List ℕ → Bool
is_list line = bytes_eq line (codes "list")

-- each kept line and a line feed
abbrev pub listing : List (List ℕ) → List ℕ
listing texts = flat_map (λ text. text ++ 10 ∷ []) texts

-- the reply to a line, where these lines are kept, by the first that holds
abbrev pub reply_over : List (List ℕ) → List ℕ → List ℕ
reply_over texts line =
    if nat_lt line_max (length line) then codes "toolong" ++ 10 ∷ []
    else if is_list line then listing texts
    else if nat_le 4096 (length texts) then codes "full" ++ 10 ∷ []
    else codes "ok" ++ 10 ∷ []

-- ---- the rules of notes

-- the line is kept
abbrev pub keeps : List (List ℕ) → List ℕ → Bool
keeps texts line = if nat_lt line_max (length line) then false else if is_list line then false else not
    (nat_le 4096 (length texts))

-- a reply of `ok` or a listing
abbrev pub is_good_over : List (List ℕ) → List ℕ → Bool
is_good_over texts line =
    if nat_lt line_max (length line) then false else if is_list line then true else not (nat_le 4096 (length texts))

-- what is kept, as the code has it
abbrev pub notes_rules : StateRules (List (List ℕ))
notes_rules = record {
  reply = reply_over;
  after = λ texts line. if keeps texts line then texts ++ line ∷ [] else texts;
  is_good = is_good_over;
  may_lack_memory = keeps;
}

-- ---- Echo: each line is given back, without memory

-- a line that isn't too long
abbrev pub fits : List ℕ → Bool
fits line = nat_le (length line) line_max

-- the line, or `toolong`, and a line feed
abbrev pub echo_reply : List ℕ → List ℕ
echo_reply line = if fits line then line ++ 10 ∷ [] else codes "toolong" ++ 10 ∷ []

-- its rules, by whatever gives the lines back
abbrev pub echo_state : {St : Type 0} → StateRules St
echo_state = record {
  reply = λ s line. echo_reply line;
  after = λ s line. s;
  is_good = λ s line. fits line;
  may_lack_memory = λ s line. false;
}

-- ---- a check by which a password matches the same text, and the empty text is no stored text

-- its verdict
abbrev pub same_verdict : {St : Type 0} → St → List ℕ → List ℕ → Option Bool
same_verdict s password stored = if length stored == 0 then None else Some (pointwise nat_eq password stored)

-- it takes no memory
abbrev pub same_lacks : {St : Type 0} → St → List ℕ → List ℕ → Bool
same_lacks s password stored = false

-- a check that never finds memory
abbrev pub always_lacks : {St : Type 0} → St → List ℕ → List ℕ → Bool
always_lacks s password stored = true

-- ---- a program that answers each line by a point, and tells at the end whether there was a line

-- by whether there was a line
abbrev pub seen_rules : StateRules Bool
seen_rules = record {
  reply = λ s line. 46 ∷ [];
  after = λ s line. true;
  is_good = λ s line. true;
  may_lack_memory = λ s line. false;
}

-- what stands at the end
abbrev pub seen_ending : Bool → List ℕ
seen_ending s = if s then codes "some" else codes "none"
