use Rattle.std.proofs.Common.{◌*◌, ◌/◌, ◌++◌, length, take, arith, refl, ◌∙◌, sym}
use Rattle.std.proofs.lemmas.Bool.{false≢true}
use Rattle.base64ct.proofs.Encodings.{below-drop}
use Rattle.base64ct.proofs.GoodBlocks.{below-append}
use Rattle.base64ct.proofs.Encoders.{fields_fit, fields_room, fields_stand, more_bytes}
use Rattle.base64ct.proofs.encoder.Encoder.encode.Goals as goal

pub returns-then-not-fits-clause-accepted : goal.returns-then-not-fits-clause-accepted
returns-then-not-fits-clause-accepted g c =
    let e = c.self.inside in let i = c.self.invariant in
    let exact = fields_fit e.ending i.0 _ e.waiting c.args.input.now e.count c.bytes_between-ending.ensures.bytes i.1
    (omega (arith, i.2)) (omega (arith, i.3)) (λ k. omega (arith, c.type_inv.input k)) in
    rw (← c.self.view_is) (
      λ no. absurd (false≢true no),
      λ h. absurd (false≢true (sym c.if-not-fits.true ∙ c.fits.ensures.1 (exact.1 h))),
    )

pub take_up-position-requires-clause-fits : goal.take_up-position-requires-clause-fits
take_up-position-requires-clause-fits g c =
    let e = c.self.inside in let i = c.self.invariant in
    fields_room e.ending i.0 _ e.waiting c.args.input.now e.count c.bytes_between-ending.ensures.bytes i.1
    (omega (arith, i.2)) (omega (arith, i.3)) (λ k. omega (arith, c.type_inv.input k))
    (c.fits.ensures.0 c.if-not-fits.false)

pub invariant_of-self : goal.invariant_of-self
invariant_of-self g c =
    let e = c.self.inside in let i = c.self.invariant in let input = c.args.input.now in
    let wait = take e.count e.waiting in
    let more = fields_stand e.ending i.0 _ e.waiting input e.count c.bytes_between-ending.ensures.bytes i.1
    (omega (arith, i.3)) (λ k. omega (arith, c.type_inv.input k)) g.met.E.Alphabet.lawful
    c.take_up-position.ensures.wrote in (
      more.0,
      rw c.take_up-position.ensures.wait (below-drop 256 (3 * (length (wait ++ input) / 3)) (wait ++ input)
          (below-append wait input i.1 (λ k. omega (arith, c.type_inv.input k)))),
      c.take_up-position.ensures.few,
      i.3,
    )

pub returns-clause-accepted : goal.returns-clause-accepted
returns-clause-accepted g c =
    let e = c.self.inside in let i = c.self.invariant in
    let exact = fields_fit e.ending i.0 _ e.waiting c.args.input.now e.count c.bytes_between-ending.ensures.bytes i.1
    (omega (arith, i.2)) (omega (arith, i.3)) (λ k. omega (arith, c.type_inv.input k)) in
    rw (← c.self.view_is) (λ _. exact.0 (c.fits.ensures.0 c.if-not-fits.false), λ _. refl)

pub returns-clause-appended : goal.returns-clause-appended
returns-clause-appended g c =
    let e = c.self.inside in let i = c.self.invariant in let input = c.args.input.now in
    let more = fields_stand e.ending i.0 _ e.waiting input e.count c.bytes_between-ending.ensures.bytes i.1
    (omega (arith, i.3)) (λ k. omega (arith, c.type_inv.input k)) g.met.E.Alphabet.lawful
    c.take_up-position.ensures.wrote in
    rw (← c.self.view_is) (
      more_bytes _ (take e.count e.waiting) input _ _ more.1 c.take_up-position.ensures.wait,
      refl,
      omega arith,
    )
