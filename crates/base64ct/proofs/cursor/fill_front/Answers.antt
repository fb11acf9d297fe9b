use Rattle.std.proofs.Common.{sym, ◌≡◌, ◌+◌, ◌-◌, ◌%◌, ◌++◌, ℕ, List, length, take, drop, arith, refl, ap, ◌∙◌}
use Rattle.std.proofs.lemmas.List.{length-append, length-take-le}
use Rattle.base64ct.proofs.Gathers.{asked_part, blocks_asked, front_filled, of_filled, two_parts, two_filled}
use Rattle.base64ct.proofs.Written.{length_front, length_back}
use Rattle.base64ct.proofs.cursor.fill_front.Goals as goal

pub returns-in-None-clause-filled : goal.returns-in-None-clause-filled
returns-in-None-clause-filled g c = λ t s fits good.
    let out : List ℕ = c.args.out.now in
    let first : ℕ = (3 - c.args.read % 3) % 3 in
    let l1 : length (take first out) ≡ first = length-take-le first out (omega (arith, c.requires.some)) in
    c.in-None.ensures.filled t s (omega (arith, fits, l1, c.requires.some))
    (asked_part g.E.Alphabet.alphabet t c.args.read (length out) c.args.read (length (take first out)) good
    (omega arith) (omega (arith, l1, c.requires.some)))

pub returns-in-None-fill_blocks-clause-filled : goal.returns-in-None-fill_blocks-clause-filled
returns-in-None-fill_blocks-clause-filled g c = λ t s fits good.
    let a = g.E.Alphabet.alphabet in
    let out : List ℕ = c.args.out.now in
    let xs : List ℕ = c.fill_short.new.out in
    let read : ℕ = c.args.read in
    let first : ℕ = (3 - read % 3) % 3 in
    let n : ℕ = length out in
    let l1 : length (take first out) ≡ first = length-take-le first out (omega (arith, c.requires.some)) in
    let front = front_filled a c.args.width c.args.body.now t c.in-Some.found.2 out xs read first c.in-Some.found.0
    c.in-Some.found.1 (omega (arith, c.requires.some)) c.fill_short.auto.out
    (c.in-Some.ensures.filled t s (omega (arith, fits, l1, c.requires.some))) in
    let one : List ℕ = xs ++ drop first out in
    let l2 : length (take (length one - first) (drop first one)) ≡ n - first =
    length_back one first ∙ omega (arith, front.1) in
    blocks_asked a c.args.width c.args.body.now t c.in-Some.found.2 (read + first) c.in-Some.found.0
    c.in-Some.found.1 (n - first) (n - first) g.met.E.Alphabet.lawful (omega arith)
    (omega (arith, c.requires.whole, c.requires.some)) (omega (arith, fits, c.requires.some)) front.3
    (λ bytes rest below len is. c.in-None-fill_blocks.ensures bytes rest below (len ∙ sym l2) is) (omega arith)
    (asked_part a t read n (read + first) (n - first) good (omega arith) (omega (arith, c.requires.some)))

pub returns-in-Some-fill_blocks-clause-filled : goal.returns-in-Some-fill_blocks-clause-filled
returns-in-Some-fill_blocks-clause-filled g c = λ t s fits.
    let a = g.E.Alphabet.alphabet in
    let out : List ℕ = c.args.out.now in
    let xs : List ℕ = c.fill_short.new.out in
    let ys : List ℕ = c.fill_blocks.new.out in
    let read : ℕ = c.args.read in
    let first : ℕ = (3 - read % 3) % 3 in
    let n : ℕ = length out in
    let l1 : length (take first out) ≡ first = length-take-le first out (omega (arith, c.requires.some)) in
    let lx : length xs ≡ first = c.fill_short.auto.out ∙ l1 in
    let one : List ℕ = xs ++ drop first out in
    let lo : length one ≡ n = length_front first xs out lx (omega (arith, c.requires.some)) in
    let ly : length ys ≡ length one - first = c.fill_blocks.auto.out ∙ length_back one first in
    let is = two_parts out xs ys first (length one - first) lx (omega (arith, c.requires.some)) refl ly in
    let head = c.in-Some.ensures.filled t s (omega (arith, fits, l1, c.requires.some)) in
    of_filled a c.args.width c.args.body.now t c.in-Some.found.2 (xs ++ ys) _ read n c.in-Some-fill_blocks.found.0
    c.in-Some-fill_blocks.found.1 is (ap length is ∙ omega (arith, length-append xs ys, lx, ly, lo, c.requires.some))
    (two_filled a c.args.width c.args.body.now t c.in-Some.found.2 _ xs ys read (length (take first out))
    (length one - first) c.in-Some.found.0 c.in-Some.found.1 c.in-Some-fill_blocks.found.0
    c.in-Some-fill_blocks.found.1 g.met.E.Alphabet.lawful c.fill_short.auto.out ly (omega (arith, l1))
    (omega (arith, lo, c.requires.whole, c.requires.some)) (omega (arith, l1, lo, fits, c.requires.some)) head is
    (λ j. omega (arith, c.type_inv.out j)) c.in-Some-fill_blocks.ensures.0 c.in-Some-fill_blocks.ensures.1)
