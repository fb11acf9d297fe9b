-- How the pieces of a text begin, and that they join to it.
use Rattle.std.proofs.Common.{◌+◌, ◌<◌, length, take, drop, slice_index, add-one}
use Rattle.std.proofs.Common.{◌≡◌, ℕ, zero, suc, Bool, true, false, List, [], ◌∷◌, ◌++◌, ap, ◌∙◌, sym, refl, arith}
use Rattle.std.proofs.Math.Seq.{split_at}
use Rattle.std.specs.Prelude.{◌==◌}
use Rattle.std.specs.List.{join_with_byte}
use Rattle.std.proofs.lemmas.Bool.Decides.{nat_tests}
use Rattle.pieces.specs.Pieces.{LacksByte, EachLacks, pieces_at, before_pieces}
use Rattle.pieces.specs.Places.{LacksBelow}
use Rattle.pieces.proofs.PlaceLaws.{lacks_front}

other_byte : (c b : ℕ) (s : List ℕ) → LacksByte c (b ∷ s) → (b == c) ≡ false
other_byte c b s lacks = let head = lacks 0 (omega arith) in grind (arith, nat_tests, head)

pub same_byte : (c : ℕ) → (c == c) ≡ true
same_byte c = grind (arith, nat_tests)

lacks_rest : (c b : ℕ) (s : List ℕ) → LacksByte c (b ∷ s) → LacksByte c s
lacks_rest c b s lacks = λ i below. lacks (suc i) (omega (arith, below))

-- a text without c is one piece
pub one_piece : (c : ℕ) (s : List ℕ) → LacksByte c s → pieces_at c s ≡ s ∷ []
unfolding pieces_at
one_piece c [] lacks = refl
one_piece c (b ∷ s) lacks =
    rw (other_byte c b s lacks) (ap (before_pieces false b) (one_piece c s (lacks_rest c b s lacks)))

-- the first piece ends at the first c
pub first_cut : (c : ℕ) (xs ys : List ℕ) → LacksByte c xs → pieces_at c (xs ++ c ∷ ys) ≡ xs ∷ pieces_at c ys
unfolding pieces_at
first_cut c [] ys lacks = rw (same_byte c) refl
first_cut c (b ∷ xs) ys lacks =
    rw (other_byte c b xs lacks) (ap (before_pieces false b) (first_cut c xs ys (lacks_rest c b xs lacks)))

-- a text that begins with c has an empty first piece
pub cut_in_front : (c : ℕ) (ys : List ℕ) → pieces_at c (c ∷ ys) ≡ [] ∷ pieces_at c ys
unfolding pieces_at
cut_in_front c ys = rw (same_byte c) refl

-- a first piece and others, which join to the text
pub record Cut (c : ℕ) (s : List ℕ) (pieces : List (List ℕ)) : Type 0 where
  pub first : List ℕ
  pub others : List (List ℕ)
  pub are : pieces ≡ first ∷ others
  pub join : join_with_byte c (first ∷ others) ≡ s

cut_true : (c b : ℕ) (s : List ℕ) (pieces : List (List ℕ)) → b ≡ c → Cut c s pieces → Cut c (b ∷ s) ([] ∷ pieces)
cut_true c b s pieces same cut = record {
  first = [];
  others = cut.first ∷ cut.others;
  are = ap (λ ps. [] ∷ ps) cut.are;
  join = ap (λ t. c ∷ t) cut.join ∙ ap (λ n. n ∷ s) (sym same);
}

push_first : (c b : ℕ) (first : List ℕ) (others : List (List ℕ))
    → join_with_byte c ((b ∷ first) ∷ others) ≡ b ∷ join_with_byte c (first ∷ others)
push_first c b first [] = refl
push_first c b first (piece ∷ others) = refl

cut_false : (c b : ℕ) (s : List ℕ) (pieces : List (List ℕ)) → Cut c s pieces
    → Cut c (b ∷ s) (before_pieces false b pieces)
cut_false c b s pieces cut = record {
  first = b ∷ cut.first;
  others = cut.others;
  are = ap (before_pieces false b) cut.are;
  join = push_first c b cut.first cut.others ∙ ap (λ t. b ∷ t) cut.join;
}

cut_cases : (c b : ℕ) (s : List ℕ) (pieces : List (List ℕ)) (test : Bool) → (b == c) ≡ test → Cut c s pieces
    → Cut c (b ∷ s) (before_pieces test b pieces)
cut_cases c b s pieces true is cut = cut_true c b s pieces (grind (arith, nat_tests, is)) cut
cut_cases c b s pieces false is cut = cut_false c b s pieces cut

pub cut_of : (c : ℕ) (s : List ℕ) → Cut c s (pieces_at c s)
unfolding pieces_at
cut_of c [] = record { first = []; others = []; are = refl; join = refl }
cut_of c (b ∷ s) = cut_cases c b s (pieces_at c s) (b == c) refl (cut_of c s)

-- the pieces of a text join to it
pub join_pieces : (c : ℕ) (s : List ℕ) → join_with_byte c (pieces_at c s) ≡ s
join_pieces c s = ap (join_with_byte c) (cut_of c s).are ∙ (cut_of c s).join

-- ---- texts that are put together

before_append : (test : Bool) (b : ℕ) (ps qs : List (List ℕ)) (first : List ℕ) (others : List (List ℕ))
    → ps ≡ first ∷ others
    → before_pieces test b (ps ++ qs) ≡ before_pieces test b ps ++ qs
before_append true b ps qs first others is = refl
before_append false b ps qs first others is = rw is refl

-- the pieces of a text that goes on behind a c
pub cut_append : (c : ℕ) (s t : List ℕ) → pieces_at c (s ++ c ∷ t) ≡ pieces_at c s ++ pieces_at c t
unfolding pieces_at
cut_append c [] t = rw (same_byte c) refl
cut_append c (b ∷ s) t =
    let cut = cut_of c s in
    ap (before_pieces (b == c) b) (cut_append c s t)
    ∙ before_append (b == c) b (pieces_at c s) (pieces_at c t) cut.first cut.others cut.are

-- pieces without c, joined and cut again, are these pieces
pub cut_joined : (c : ℕ) (first : List ℕ) (others : List (List ℕ)) → LacksByte c first → EachLacks c others
    → pieces_at c (join_with_byte c (first ∷ others)) ≡ first ∷ others
cut_joined c first [] lacks each = one_piece c first lacks
cut_joined c first (piece ∷ pieces) lacks each =
    first_cut c first (join_with_byte c (piece ∷ pieces)) lacks
    ∙ ap (λ (ps : List (List ℕ)). first ∷ ps) (cut_joined c piece pieces each.0 each.1)

-- a text cut at the first place of c
pub cut_at : (c : ℕ) (text : List ℕ) (at : ℕ) → at < length text → LacksBelow c text at → slice_index text at ≡ c →
    pieces_at c text ≡ take at text ∷ pieces_at c (drop (at + 1) text)
cut_at c text at low lacks is =
    let parts : text ≡ take at text ++ c ∷ drop (at + 1) text =
    split_at text at 0 low ∙ ap (λ x. take at text ++ x ∷ drop (suc at) text) is
    ∙ ap (λ n. take at text ++ c ∷ drop n text) (sym (add-one at)) in
    ap (pieces_at c) parts
    ∙ first_cut c (take at text) (drop (at + 1) text) (lacks_front c text at (omega arith) lacks)

-- ---- no piece has the byte at which it was cut

pub lacks_none : (c : ℕ) → LacksByte c []
lacks_none c i below = absurd (omega (arith, below))

lacks_more : (c b : ℕ) (s : List ℕ) → (b == c) ≡ false → LacksByte c s → LacksByte c (b ∷ s)
lacks_more c b s other lacks zero below = λ same. grind (arith, nat_tests, other, same)
lacks_more c b s other lacks (suc i) below = lacks i (omega (arith, below))

before_lacks : (test : Bool) (c b : ℕ) (pieces : List (List ℕ)) → (b == c) ≡ test → EachLacks c pieces
    → EachLacks c (before_pieces test b pieces)
before_lacks true c b pieces is each = (lacks_none c, each)
before_lacks false c b [] is each = (lacks_more c b [] is (lacks_none c), tt)
before_lacks false c b (piece ∷ pieces) is each = (lacks_more c b piece is each.0, each.1)

pub pieces_lack : (c : ℕ) (s : List ℕ) → EachLacks c (pieces_at c s)
unfolding pieces_at
pieces_lack c [] = (lacks_none c, tt)
pieces_lack c (b ∷ s) = before_lacks (b == c) c b (pieces_at c s) refl (pieces_lack c s)
