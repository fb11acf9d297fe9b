-- Characters gathered from lines: where they are an encoding, the text is read along them.
use Rattle.std.proofs.Common.{◌≡◌, ℕ, zero, suc, ◌+◌, ◌*◌, ◌/◌, ◌%◌, ◌<◌, ◌≤◌, false, List, [], ◌∷◌, ◌++◌, length, take}
use Rattle.std.proofs.Common.{drop, slice_index, take-add, Some, refl, sym, subst, ap, ◌∙◌, arith, inl, inr}
use Rattle.std.proofs.lemmas.List.{append-nil, append_assoc, length-append, length-drop, length-take-le}
use Rattle.std.proofs.lemmas.List.{append_cancel_right, drop_at, take_at, take-append-drop, take-take}
use Rattle.base64ct.specs.Encoding.{character, encoding, unpadded_encoding, EachBelow}
use Rattle.base64ct.specs.Alphabets.{base64, base64_unpadded}
use Rattle.base64ct.specs.Decoding.{decoding}
use Rattle.base64ct.specs.Wrapping.{IsEnding}
use Rattle.base64ct.proofs.DecodingLaws.{decoding-Some, decoding_is, length-decodable}
use Rattle.base64ct.proofs.Encodings.{below-take, below-three}
use Rattle.base64ct.proofs.GoodBlocks.{encoding-append}
use Rattle.base64ct.proofs.Padding.{encoding-is, length-encoding}
use Rattle.base64ct.proofs.Sextets.{groups-nil}
use Rattle.wrap_stream.specs.Front.{is_end}
use Rattle.wrap_stream.specs.Reading.{State, at, grown, next, output, run}
use Rattle.wrap_stream.specs.Turns.{AreGathered, EndsLine, ReadsTo, Spells}
use Rattle.wrap_stream.specs.declared.place.Place.{Place}
use Rattle.wrap_stream.specs.declared.place.Place.TheVariants.{Within}
use Rattle.wrap_stream.proofs.Letters.{IsLetter, lawful, letter_no_end, encoding-nil, encoding-three}
use Rattle.wrap_stream.proofs.Grown.{begins_one, begins_two, begins_three, begins_four, grown_part, grown_whole}
use Rattle.wrap_stream.proofs.Grown.{letters_whole}
use Rattle.wrap_stream.proofs.Runs.{after_return, next_within, output-append, output-cons, output-nil, run-append}
use Rattle.wrap_stream.proofs.Runs.{run-cons, run-nil}

-- ---- a character

-- what the next character does
record NextCharacter (room : ℕ) (block : List ℕ) (c : ℕ) (cs b : List ℕ) : Type 0 where
  pub bytes : List ℕ
  pub rest : List ℕ
  pub more : List ℕ
  pub is : grown room (block ++ c ∷ []) ≡ (at (Within room) rest, bytes)
  pub cut : b ≡ bytes ++ more
  pub waits : Spells rest cs more
  pub no_end : is_end c ≡ false

-- the first four characters of the encoding of three bytes and others
record Four (b : List ℕ) (x y z : ℕ) (c d e f : ℕ) (rest : List ℕ) : Type 0 where
  pub is : encoding base64 (x ∷ y ∷ z ∷ b) ≡ c ∷ d ∷ e ∷ f ∷ rest
  pub first : IsLetter c
  pub second : IsLetter d
  pub third : IsLetter e
  pub fourth : IsLetter f
  pub decodes : decoding base64 (c ∷ d ∷ e ∷ f ∷ []) ≡ Some (x ∷ y ∷ z ∷ [])
  pub behind : rest ≡ encoding base64 b

four : (b : List ℕ) (x y z : ℕ) → EachBelow 256 (x ∷ y ∷ z ∷ b) → (c d e f : ℕ) × (rest : List ℕ)
    × Four b x y z c d e f rest
four b x y z h = (
  _,
  _,
  _,
  _,
  _,
  record {
    is = encoding-three x y z b h;
    first = (x / 4, omega (arith, h 0), refl);
    second = (x % 4 * 16 + y / 16, omega (arith, h 0, h 1), refl);
    third = (y % 16 * 4 + z / 64, omega (arith, h 1, h 2), refl);
    fourth = (z % 64, omega arith, refl);
    decodes = decoding_is base64 _ (x ∷ y ∷ z ∷ []) lawful three (sym alone);
    behind = refl;
  },
)
  where
    three : EachBelow 256 (x ∷ y ∷ z ∷ [])
    three = below-three x y z (h 0) (h 1) (h 2)

    alone : encoding base64 (x ∷ y ∷ z ∷ []) ≡ character base64 (x / 4) ∷ character base64 (x % 4 * 16 + y / 16)
        ∷ character base64 (y % 16 * 4 + z / 64) ∷ character base64 (z % 64) ∷ []
    alone = encoding-three x y z [] three ∙ rw encoding-nil refl

module _ (room c : ℕ) (cs : List ℕ) (x y z : ℕ) (b : List ℕ) (below : EachBelow 256 (x ∷ y ∷ z ∷ b))
    (threes : length (x ∷ y ∷ z ∷ b) % 3 ≡ 0) (c₀ d₀ e₀ f₀ : ℕ) (rest : List ℕ)
    (f : Four b x y z c₀ d₀ e₀ f₀ rest) where
  -- fewer than four characters wait
  waiting : (block : List ℕ) → (block ++ c ∷ []) ++ cs ≡ encoding base64 (x ∷ y ∷ z ∷ b)
      → length (block ++ c ∷ []) < 4
      → grown room (block ++ c ∷ []) ≡ (at (Within room) (block ++ c ∷ []), []) → IsLetter c
      → NextCharacter room block c cs (x ∷ y ∷ z ∷ b)
  waiting block text few is letter = record {
    bytes = [];
    rest = block ++ c ∷ [];
    more = x ∷ y ∷ z ∷ b;
    is = is;
    cut = refl;
    waits = record { text = text; below = below; threes = threes; few = few };
    no_end = letter_no_end c letter;
  }

  -- the characters at hand are the first of those four
  letter_of : (all : List ℕ) (i : ℕ) (d : ℕ) → all ≡ c₀ ∷ d₀ ∷ e₀ ∷ f₀ ∷ rest
      → slice_index (c₀ ∷ d₀ ∷ e₀ ∷ f₀ ∷ rest) i ≡ d → IsLetter d → IsLetter (slice_index all i)
  letter_of all i d is at_i letter = subst IsLetter (sym (ap (λ (l : List ℕ). slice_index l i) is ∙ at_i)) letter

  by_four : (block : List ℕ) → block ++ c ∷ cs ≡ c₀ ∷ d₀ ∷ e₀ ∷ f₀ ∷ rest
      → block ++ c ∷ cs ≡ encoding base64 (x ∷ y ∷ z ∷ b) → length block < 4
      → NextCharacter room block c cs (x ∷ y ∷ z ∷ b)
  by_four [] is text few =
      let lc = letter_of (c ∷ cs) 0 c₀ is refl f.first in
      waiting [] text (omega arith) (grown_part room (c ∷ []) (begins_one c lc) refl) lc
  by_four (p ∷ []) is text few =
      let lp = letter_of (p ∷ c ∷ cs) 0 c₀ is refl f.first in
      let lc = letter_of (p ∷ c ∷ cs) 1 d₀ is refl f.second in
      waiting (p ∷ []) text (omega arith) (grown_part room (p ∷ c ∷ []) (begins_two p c lp lc) refl) lc
  by_four (p ∷ q ∷ []) is text few =
      let lp = letter_of (p ∷ q ∷ c ∷ cs) 0 c₀ is refl f.first in
      let lq = letter_of (p ∷ q ∷ c ∷ cs) 1 d₀ is refl f.second in
      let lc = letter_of (p ∷ q ∷ c ∷ cs) 2 e₀ is refl f.third in
      waiting (p ∷ q ∷ []) text (omega arith) (grown_part room (p ∷ q ∷ c ∷ []) (begins_three p q c lp lq lc) refl) lc
  by_four (p ∷ q ∷ r ∷ []) is text few =
      let lp = letter_of (p ∷ q ∷ r ∷ c ∷ cs) 0 c₀ is refl f.first in
      let lq = letter_of (p ∷ q ∷ r ∷ c ∷ cs) 1 d₀ is refl f.second in
      let lr = letter_of (p ∷ q ∷ r ∷ c ∷ cs) 2 e₀ is refl f.third in
      let lc = letter_of (p ∷ q ∷ r ∷ c ∷ cs) 3 f₀ is refl f.fourth in
      let dec : decoding base64 (p ∷ q ∷ r ∷ c ∷ []) ≡ Some (x ∷ y ∷ z ∷ []) =
      ap (λ (l : List ℕ). decoding base64 (take 4 l)) is ∙ f.decodes in
      record {
        bytes = x ∷ y ∷ z ∷ [];
        rest = [];
        more = b;
        is = grown_whole room (p ∷ q ∷ r ∷ c ∷ []) (x ∷ y ∷ z ∷ []) (begins_four p q r c (x ∷ y ∷ z ∷ []) dec)
            (letters_whole p q r c lp lq lr lc) dec;
        cut = refl;
        waits = record {
          text = ap (λ (l : List ℕ). drop 4 l) is ∙ f.behind;
          below = λ i. below (suc (suc (suc i)));
          threes = omega arith;
          few = omega arith;
        };
        no_end = letter_no_end c lc;
      }
  by_four (p ∷ q ∷ r ∷ u ∷ block) is text few = absurd (omega arith)

next_character : (room : ℕ) (block : List ℕ) (c : ℕ) (cs b : List ℕ) → Spells block (c ∷ cs) b
    → NextCharacter room block c cs b
next_character room block c cs [] s =
    let n : length (block ++ c ∷ cs) ≡ 0 = ap length (s.text ∙ encoding-nil) in
    absurd (omega (arith, length-append block (c ∷ cs)))
next_character room block c cs (x ∷ []) s = let h = s.threes in absurd (omega arith)
next_character room block c cs (x ∷ y ∷ []) s = let h = s.threes in absurd (omega arith)
next_character room block c cs (x ∷ y ∷ z ∷ b) s = go (four b x y z s.below)
  where
    go : (c₀ d₀ e₀ f₀ : ℕ) × (rest : List ℕ) × Four b x y z c₀ d₀ e₀ f₀ rest
        → NextCharacter room block c cs (x ∷ y ∷ z ∷ b)
    go (c₀, d₀, e₀, f₀, rest, f) =
        by_four room c cs x y z b s.below s.threes c₀ d₀ e₀ f₀ rest f block (s.text ∙ f.is) s.text s.few

-- ---- a line

reads_line : (w room left : ℕ) (block line rest b : List ℕ) → left + length line ≡ room
    → Spells block (line ++ rest) b → ReadsTo w (at (Within room) block) line left rest b
reads_line w room left block [] rest b sum s =
    let same : room ≡ left = omega arith in
    rw same (record {
      block = block;
      more = b;
      is = run-nil w (at (Within left) block);
      cut = rw (output-nil w (at
          (Within left) block)) refl;
      waits = s;
    })
reads_line w zero left block (c ∷ line) rest b sum s = absurd (omega arith)
reads_line w (suc room) left block (c ∷ line) rest b sum s =
    let g = next_character room block c (line ++ rest) b s in
    let r = reads_line w room left g.rest line rest g.more (omega arith) g.waits in
    let step = next_within w room block c g.no_end ∙ g.is in
    let out : List ℕ = output w (at (Within room) g.rest) line in
    let all : output w (at (Within (suc room)) block) (c ∷ line) ≡ g.bytes ++ out =
    output-cons w (at (Within (suc room)) block) c line _ step in
    record {
      block = r.block;
      more = r.more;
      is = run-cons w (at (Within (suc room)) block) c line _ step ∙ r.is;
      cut = g.cut ∙ ap (λ (t : List ℕ). g.bytes ++ t) r.cut ∙ sym (append_assoc g.bytes out r.more)
          ∙ ap (λ (t : List ℕ). t ++ r.more) (sym all);
      waits = r.waits;
    }

-- behind the ending of a full line a character is read as at a line's beginning
new_line : (w : ℕ) (block e : List ℕ) (c : ℕ) (text : List ℕ) → 0 < w → IsEnding e → is_end c ≡ false
    → (run w (at (Within 0) block) (e ++ c ∷ text) ≡ run w (at (Within w) block) (c ∷ text))
    × (output w (at (Within 0) block) (e ++ c ∷ text) ≡ output w (at (Within w) block) (c ∷ text))
unfolding run output next
new_line w block e c text some (inl is) no_end = rw is (after_return w block c text some no_end)
new_line w block e c text some (inr (inl is)) no_end = rw is (refl, refl)
new_line w block e c text some (inr (inr is)) no_end = rw is (refl, refl)

-- the ending before a line, and the line
reads_next : (w room next_room left : ℕ) (block e line rest b : List ℕ) → 0 < w → EndsLine w room e next_room
    → left + length line ≡ next_room → 0 < length line → Spells block (line ++ rest) b
    → ReadsTo w (at (Within room) block) (e ++ line) left rest b
reads_next w room next_room left block e [] rest b pos ends sum some s = absurd (omega arith)
reads_next w room next_room left block e (c ∷ line) rest b pos (inl (none, same)) sum some s = rw none
    (reads_line w room left block (c ∷ line) rest b (omega arith) s)
reads_next w room next_room left block e (c ∷ line) rest b pos (inr (full, ending, same)) sum some s =
    let r = reads_line w w left block (c ∷ line) rest b (omega arith) s in
    let on = new_line w block e c line pos ending (next_character 0 block c (line ++ rest) b s).no_end in
    rw full (record {
      block = r.block;
      more = r.more;
      is = on.0 ∙ r.is;
      cut = r.cut
          ∙ ap (λ (t : List ℕ). t ++ r.more) (sym on.1);
      waits = r.waits;
    })

-- ---- lines

pub gather_none : (w room : ℕ) (block : List ℕ) → AreGathered w (at (Within room) block) [] block room
gather_none w room block rest b few s = record {
  block = block;
  more = b;
  is = run-nil w (at (Within room) block);
  cut = rw (output-nil w (at (Within room) block)) refl;
  waits = record { text = s.text; below = s.below; threes = s.threes; few = few };
}

pub gather_line : (w : ℕ) (s : State) (text chars e line : List ℕ) (room next_room left : ℕ) → 0 < w
    → AreGathered w s text chars room → EndsLine w room e next_room → left + length line ≡ next_room → 0 < length line
    → AreGathered w s (text ++ (e ++ line)) (chars ++ line) left
gather_line w s text chars e line room next_room left pos so_far ends sum some rest b few spells =
    let f = so_far (line ++ rest) b few (record {
      text = sym (append_assoc chars line rest)
          ∙ spells.text;
      below = spells.below;
      threes = spells.threes;
      few = omega arith;
    }) in
    let g = reads_next w room next_room left f.block e line rest f.more pos ends sum some f.waits in
    let out : List ℕ = output w (at (Within room) f.block) (e ++ line) in
    let all : output w s (text ++ (e ++ line)) ≡ output w s text ++ out =
    output-append w s text (e ++ line) ∙ ap (λ (x : State). output w s text ++ output w x (e ++ line)) f.is in
    record {
      block = g.block;
      more = g.more;
      is = run-append w s text (e ++ line) ∙ ap (λ (x : State). run w x (e ++ line)) f.is ∙ g.is;
      cut = f.cut ∙ ap (λ (t : List ℕ). output w s text ++ t) g.cut ∙ sym (append_assoc (output w s text) out g.more)
          ∙ ap (λ (t : List ℕ). t ++ g.more) (sym all);
      waits = g.waits;
    }

-- a line more in a buffer
pub gather_more : (w : ℕ) (s : State) (text chars new e : List ℕ)
    (taken len end n start to all room next_room left : ℕ) → 0 < w → AreGathered w s (take taken text)
    (take len chars) room → EndsLine w room e next_room → e ≡ take end (drop taken text)
    → start ≡ taken + end → start + n ≤ length text → 0 < n → left + n ≡ next_room
    → take all new ≡ take len chars ++ take n (drop start text) → to ≡ start + n
    → AreGathered w s (take to text) (take all new) left
gather_more w s text chars new e taken len end n start to all room next_room left pos so_far ends is_end is_start
    fits some sum put is_to =
    let line : List ℕ = take n (drop start text) in
    let line_len : length line ≡ n = length-take-le n (drop start text) (omega (arith, length-drop start text)) in
    let before : take start text ≡ take taken text ++ e =
    ap (λ (i : ℕ). take i text) is_start ∙ take-add taken end text
    ∙ ap (λ (t : List ℕ). take taken text ++ t) (sym is_end) in
    let parts : take to text ≡ take taken text ++ (e ++ line) =
    ap (λ (i : ℕ). take i text) is_to ∙ take-add start n text ∙ ap (λ (t : List ℕ). t ++ line) before
    ∙ append_assoc (take taken text) e line in
    rw (parts, put) (
    gather_line w s (take taken text) (take len chars) e line room next_room left pos so_far ends
    (omega arith) (omega arith))

-- ---- what they make whole

-- the encoding of whole threes has no padding
whole_unpadded : (b : List ℕ) → EachBelow 256 b → length b % 3 ≡ 0 → encoding base64 b ≡ encoding base64_unpadded b
whole_unpadded b h whole =
    let nothing : encoding base64_unpadded [] ≡ [] = encoding-is base64_unpadded [] ∙ rw (groups-nil false) refl in
    let padded : encoding base64 (b ++ []) ≡ unpadded_encoding base64 b ++ encoding base64 [] =
    encoding-append base64 b [] h whole in
    let unpadded : encoding base64_unpadded (b ++ [])
    ≡ unpadded_encoding base64_unpadded b ++ encoding base64_unpadded [] =
    encoding-append base64_unpadded b [] h whole in
    sym (ap (encoding base64) (append-nil b)) ∙ padded
    ∙ ap (λ (t : List ℕ). unpadded_encoding base64 b ++ t) (encoding-nil ∙ sym nothing) ∙ sym unpadded
    ∙ ap (encoding base64_unpadded) (append-nil b)

-- the encoding of threes has fours
length-threes : (b : List ℕ) → EachBelow 256 b → length b % 3 ≡ 0 → length (encoding base64 b) ≡ 4 * (length b / 3)
length-threes b below threes = ap length (whole_unpadded b below threes)
    ∙ omega (arith, length-encoding base64_unpadded b below)

-- a text whose characters were gathered and decoded, with some behind them that fill up the last block
module _ (w left n filled : ℕ) (s : State) (text chars fill bytes : List ℕ) (gathered : AreGathered w s text chars left)
    (few : length s.block < 4) (is_len : n ≡ length chars) (is_filled : filled ≡ (n + 3) / 4 * 4)
    (whole : length (chars ++ fill) ≡ filled) (dec : decoding base64_unpadded (chars ++ fill) ≡ Some bytes) where
  parts : EachBelow 256 bytes × (chars ++ fill ≡ encoding base64_unpadded bytes)
  parts = decoding-Some base64_unpadded (chars ++ fill) bytes dec

  len : length (chars ++ fill) ≡ (4 * length bytes + 2) / 3
  len = length-decodable base64_unpadded (chars ++ fill) bytes refl dec

  threes : length bytes % 3 ≡ 0
  threes = omega (arith, len, whole)

  r : ReadsTo w s text left fill bytes
  r = gathered fill bytes few (record {
    text = parts.1 ∙ sym (whole_unpadded bytes parts.0 threes);
    below = parts.0;
    threes = threes;
    few = omega arith;
  })

  abbrev out : List ℕ
  out = output w s text

  more_len : length r.block + length fill ≡ 4 * (length r.more / 3)
  more_len = sym (length-append r.block fill) ∙ ap length r.waits.text
      ∙ length-threes r.more r.waits.below r.waits.threes

  lengths : length out ≡ n / 4 * 3
  lengths = omega (
    arith,
    ap length r.cut,
    length-append out r.more,
    more_len,
    len,
    whole,
    length-append chars fill,
    r.waits.few,
    r.waits.threes,
  )

  below : EachBelow 256 out
  below = subst (EachBelow 256) (ap (λ (t : List ℕ). take (n / 4 * 3) t) r.cut
      ∙ take_at out r.more (n / 4 * 3) lengths) (below-take 256 (n / 4 * 3) bytes (omega arith) parts.0)

  cut : chars ≡ unpadded_encoding base64 out ++ r.block
  cut = append_cancel_right chars (unpadded_encoding base64 out ++ r.block) fill (
      parts.1 ∙ sym (whole_unpadded bytes parts.0 threes) ∙ ap (encoding base64) r.cut
      ∙ encoding-append base64 out r.more below (omega (arith, lengths))
      ∙ ap (λ (t : List ℕ). unpadded_encoding base64 out ++ t) (sym r.waits.text)
      ∙ sym (append_assoc (unpadded_encoding base64 out) r.block fill))

  waiting_is : r.block ≡ drop (n / 4 * 4) chars
  waiting_is = sym (ap (λ (t : List ℕ). drop (n / 4 * 4) t) cut ∙ drop_at (unpadded_encoding base64 out) r.block
      (n / 4 * 4) (omega (
        arith,
        is_len,
        ap length cut,
        length-append (unpadded_encoding base64 out) r.block,
        ap length r.cut,
        length-append out r.more,
        lengths,
        more_len,
        len,
        whole,
        length-append chars fill,
        r.waits.few,
      )))

  pub gathered_read : (run w s text ≡ at (Within left) (drop (n / 4 * 4) chars))
      × (output w s text ≡ take (n / 4 * 3) bytes)
  gathered_read = (
    r.is ∙ ap (λ (t : List ℕ). at (Within left) t) waiting_is,
    sym (ap (λ (t : List ℕ). take (n / 4 * 3) t) r.cut ∙ take_at out r.more (n / 4 * 3) (omega (arith, lengths))),
  )

-- so it is in a buffer of characters
pub lines_read : (w room left len filled k : ℕ) (place : Place) (block buf text bytes : List ℕ)
    → AreGathered w (at (Within room) block) text (take len buf) left → place ≡ Within room → length block < 4
    → len ≤ length buf → filled ≡ (len + 3) / 4 * 4
    → filled ≤ length buf → k ≡ length (take len buf) → decoding base64_unpadded (take filled buf) ≡ Some bytes
    → (run w (at place block) text ≡ at (Within left) (drop (k / 4 * 4) (take len buf)))
    × (output w (at place block) text ≡ take (len / 4 * 3) bytes)
lines_read w room left len filled k place block buf text bytes gathered here few fits is_filled within is_k dec =
    let n : length (take len buf) ≡ len = length-take-le len buf fits in
    let fill : List ℕ = drop len (take filled buf) in
    let front : take len buf ≡ take len (take filled buf) = sym (take-take len filled buf (omega arith)) in
    let whole : take len buf ++ fill ≡ take filled buf =
    ap (λ (t : List ℕ). t ++ fill) front ∙ take-append-drop len (take filled buf) in
    rw (here, is_k, n) (
    gathered_read w left len filled (at (Within room) block) text (take len buf) fill bytes gathered few
    (sym n) is_filled (ap length whole ∙ length-take-le filled buf within)
    (ap (decoding base64_unpadded) whole ∙ dec))
