use Rattle.std.proofs.Common.{◌≡◌, ◌<◌, ◌+◌, ◌-◌, ◌*◌, ◌/◌, ◌%◌, ◌++◌, ℕ, List, length, take, drop, arith, refl, ap}
use Rattle.std.proofs.Common.{◌∙◌}
use Rattle.std.proofs.lemmas.List.{length-append, length-take-le}
use Rattle.base64ct.proofs.Gathers.{asked_part, filled_more, as_filled, front_filled, of_filled}
use Rattle.base64ct.proofs.Gathers.{two_parts}
use Rattle.base64ct.proofs.Written.{length_back}
use Rattle.base64ct.proofs.cursor.fill_from.Goals as goal

pub returns-in-None-clause-filled : goal.returns-in-None-clause-filled
returns-in-None-clause-filled g c = λ t s fits good.
    let out : List ℕ = c.args.out.now in
    let first : ℕ = (3 - c.args.read % 3) % 3 in
    let last : ℕ = first + (length out - first - 1) / 3 * 3 in
    let l1 : length (take last out) ≡ last = length-take-le last out (omega (arith, c.if-n-le192.false)) in
    c.in-None.ensures.filled t s (omega (arith, fits, l1, c.if-n-le192.false))
    (asked_part g.E.Alphabet.alphabet t c.args.read (length out) c.args.read (length (take last out)) good
    (omega arith) (omega (arith, l1, c.if-n-le192.false)))

pub returns-in-Some-fill_short-clause-filled : goal.returns-in-Some-fill_short-clause-filled
returns-in-Some-fill_short-clause-filled g c = λ t s fits.
    let a = g.E.Alphabet.alphabet in
    let out : List ℕ = c.args.out.now in let xs : List ℕ = c.fill_front.new.out in
    let ys : List ℕ = c.fill_short-2.new.out in
    let read : ℕ = c.args.read in let n : ℕ = length out in
    let first : ℕ = (3 - read % 3) % 3 in let last : ℕ = first + (n - first - 1) / 3 * 3 in
    let many : 192 < n = c.if-n-le192.false in
    let l1 : length (take last out) ≡ last = length-take-le last out (omega (arith, many)) in
    let front = front_filled a c.args.width c.args.body.now t c.in-Some.found.2 out xs read last c.in-Some.found.0
    c.in-Some.found.1 (omega (arith, many)) c.fill_front.auto.out
    (c.in-Some.ensures.filled t s (omega (arith, fits, l1, many))) in
    let one : List ℕ = xs ++ drop last out in
    let l2 = length_back one last in
    let ly : length ys ≡ length one - last = c.fill_short-2.auto.out ∙ l2 in
    let is = two_parts out xs ys last (length one - last) front.0 (omega (arith, many)) refl ly in
    let back = as_filled a c.args.width c.args.body.now t c.in-Some-fill_short.found.2 ys (read + last) _
    c.in-Some-fill_short.found.0 c.in-Some-fill_short.found.1 c.fill_short-2.auto.out
    (c.in-Some-fill_short.ensures.filled t front.3 (omega (arith, fits, l2, front.1, many))) in
    of_filled a c.args.width c.args.body.now t c.in-Some-fill_short.found.2 (xs ++ ys) _ read n
    c.in-Some-fill_short.found.0 c.in-Some-fill_short.found.1 is
    (ap length is ∙ omega (arith, length-append xs ys, front.0, ly, front.1, many))
    (filled_more a c.args.width c.args.body.now t c.in-Some.found.2 c.in-Some-fill_short.found.2 xs ys read
    c.in-Some.found.0 c.in-Some.found.1 c.in-Some-fill_short.found.0 c.in-Some-fill_short.found.1 front.2
    (rw front.0 back))

pub returns-in-None-fill_short-clause-filled : goal.returns-in-None-fill_short-clause-filled
returns-in-None-fill_short-clause-filled g c = λ t s fits good.
    let out : List ℕ = c.args.out.now in let xs : List ℕ = c.fill_front.new.out in
    let read : ℕ = c.args.read in let n : ℕ = length out in
    let first : ℕ = (3 - read % 3) % 3 in let last : ℕ = first + (n - first - 1) / 3 * 3 in
    let many : 192 < n = c.if-n-le192.false in
    let l1 : length (take last out) ≡ last = length-take-le last out (omega (arith, many)) in
    let front = front_filled g.E.Alphabet.alphabet c.args.width c.args.body.now t c.in-Some.found.2 out xs read last
    c.in-Some.found.0 c.in-Some.found.1 (omega (arith, many)) c.fill_front.auto.out
    (c.in-Some.ensures.filled t s (omega (arith, fits, l1, many))) in
    let l2 = length_back (xs ++ drop last out) last in
    c.in-None-fill_short.ensures.filled t front.3 (omega (arith, fits, l2, front.1, many))
    (asked_part g.E.Alphabet.alphabet t read n (read + last) _ good (omega arith) (omega (arith, l2, front.1, many)))
