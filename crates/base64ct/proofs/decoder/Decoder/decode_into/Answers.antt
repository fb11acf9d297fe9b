use Rattle.std.proofs.Common.{◌≤◌, ℕ, List, length, arith, refl}
use Rattle.base64ct.specs.Blocks.{decoded}
use Rattle.std.proofs.lemmas.List.{length-drop}
use Rattle.base64ct.specs.Decoders.{text_or_nil, left}
use Rattle.base64ct.specs.Wrapping.{characters_from}
use Rattle.base64ct.proofs.decoder.Decoder.decode_into.Goals as goal

pub returns-in-Some-clause-answer : goal.returns-in-Some-clause-answer
returns-in-Some-clause-answer g c =
    let i = c.self.invariant in
    let t : List ℕ = text_or_nil (characters_from c.self.inside.width c.self.inside.width c.self.inside.body.now) in
    rw (← c.self.view_is) (λ fits. let r =
    c.in-Some.ensures.filled t i.stands (omega (arith, fits, i.whole, i.within)) in (r.0, r.1, refl, refl))

pub returns-in-None-clause-answer : goal.returns-in-None-clause-answer
returns-in-None-clause-answer g c =
    let i = c.self.invariant in
    let t : List ℕ = text_or_nil (characters_from c.self.inside.width c.self.inside.width c.self.inside.body.now) in
    rw (← c.self.view_is) (λ fits.
    (refl, c.in-None.ensures.filled t i.stands (omega (arith, fits, i.whole, i.within)), refl))

pub returns-in-Some-clause-part : goal.returns-in-Some-clause-part
returns-in-Some-clause-part g c =
    let i = c.self.invariant in
    let a = g.E.Alphabet.alphabet in
    let t : List ℕ = text_or_nil (characters_from c.self.inside.width c.self.inside.width c.self.inside.body.now) in
    let enough : length c.args.out.now ≤ length (left a c.args.self.now) =
    rw (← c.self.view_is) (omega
    (arith, c.if-self-out.false, i.whole, i.within, length-drop c.self.inside.read (decoded a t))) in
    (λ short. absurd (omega (arith, short, enough)), returns-in-Some-clause-answer g c)

pub returns-in-None-clause-part : goal.returns-in-None-clause-part
returns-in-None-clause-part g c =
    let i = c.self.invariant in
    let a = g.E.Alphabet.alphabet in
    let t : List ℕ = text_or_nil (characters_from c.self.inside.width c.self.inside.width c.self.inside.body.now) in
    let enough : length c.args.out.now ≤ length (left a c.args.self.now) =
    rw (← c.self.view_is) (omega
    (arith, c.if-self-out.false, i.whole, i.within, length-drop c.self.inside.read (decoded a t))) in
    (λ short. absurd (omega (arith, short, enough)), returns-in-None-clause-answer g c)
