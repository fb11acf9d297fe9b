use Rattle.std.proofs.Common.{◌≡◌, ◌-◌, ℕ, List, ◌++◌, length, take, arith, refl, ◌∙◌, sym}
use Rattle.std.proofs.lemmas.List.{length-take-le}
use Rattle.std.proofs.lemmas.Bool.{false≢true}
use Rattle.base64ct.specs.Encoding.{encoding}
use Rattle.base64ct.specs.Encoders.{Wrote, bytes_in, ending_of}
use Rattle.base64ct.proofs.encoder.Encoder.close.Goals as goal
use Rattle.std.proofs.Common.{inl, inr}
use Rattle.std.proofs.lemmas.List.{take_at}
use Rattle.base64ct.proofs.Encoders.{short_encoding, close_exactly, closed_text, lines-ascii}
use Rattle.std.proofs.lemmas.Str.{IsUtf8-from_ascii}
use Rattle.base64ct.proofs.Ascii.{encoding_ascii}

pub returns-in-Err-clause-fits : goal.returns-in-Err-clause-fits
returns-in-Err-clause-fits g c =
    let e = c.self.inside in
    let i = c.self.invariant in
    let lw : length (take e.count e.waiting) ≡ e.count = length-take-le e.count e.waiting (omega (arith, i.2)) in
    let short = short_encoding g.E.Alphabet.alphabet (take e.count e.waiting) i.1 (omega (arith, i.2)) in (
      λ no. absurd (false≢true no),
      λ _. absurd (elim (c.in-Err.ensures.refused.0 refl) [ inl big ↦ omega (arith, i.2) | inr small ↦ omega arith ]),
    )

pub returns-then-not-fits-clause-fits : goal.returns-then-not-fits-clause-fits
returns-then-not-fits-clause-fits g c =
    let e = c.self.inside in
    let i = c.self.invariant in
    let exact = close_exactly g.E.Alphabet.alphabet e.width e.ending e.output.now (take e.count e.waiting) e.position
    e.room c.in-Ok.n (length e.output.now - e.position) _ (omega (arith, i.3)) c.in-Ok.ensures.written.0 refl i.0 in
    rw (← c.self.view_is) (
      λ no. absurd (false≢true no),
      λ h. absurd (false≢true
          (sym c.if-not-fits.true ∙ c.fits.ensures.1 (rw c.bytes_between-ending.ensures.bytes (exact.1 h)))),
    )

pub returns-clause-fits : goal.returns-clause-fits
returns-clause-fits g c =
    let e = c.self.inside in
    let i = c.self.invariant in
    let exact = close_exactly g.E.Alphabet.alphabet e.width e.ending e.output.now (take e.count e.waiting) e.position
    e.room c.in-Ok.n (length e.output.now - e.position) _ (omega (arith, i.3)) c.in-Ok.ensures.written.0 refl i.0 in
    rw (← c.self.view_is) (
      λ _.
          exact.0 (rw c.bytes_between-ending.ensures.bytes at (c.fits.ensures.0 c.if-not-fits.false)),
      λ _. refl,
    )

pub returns-clause-text : goal.returns-clause-text
returns-clause-text g c =
    let e = c.self.inside in
    let i = c.self.invariant in
    let a = g.E.Alphabet.alphabet in
    let wait : List ℕ = take e.count e.waiting in
    let chars : take c.in-Ok.n c.encode_into.new.dst ≡ encoding a wait =
    rw c.in-Ok.ensures.written.2 (take_at (encoding a wait) _ c.in-Ok.n (sym c.in-Ok.ensures.written.0)) in
    let f : Wrote e.width (ending_of e.ending) e.output.now c.put-end.new.out e.position c.put-end.result.0 e.room
    c.put-end.result.1 (encoding a wait) =
    rw (← chars, ← c.bytes_between-ending.ensures.bytes)
    (record { put = c.put-end.ensures.put; within = c.put-end.ensures.within; at = c.put-end.ensures.at }) in
    rw (← c.self.view_is) (c.split_at_mut.ensures.front
    ∙ closed_text a e.width e.ending e.output.now c.put-end.new.out wait e.position c.put-end.result.0 e.room
    c.put-end.result.1 _ (omega (arith, i.3)) i.0 f)

pub returns-clause-utf8 : goal.returns-clause-utf8
returns-clause-utf8 g c =
    let e = c.self.inside in
    let i = c.self.invariant in
    let a = g.E.Alphabet.alphabet in
    let bytes : List ℕ = bytes_in a e.width (length (ending_of e.ending)) (take e.position e.output.now)
    ++ take e.count e.waiting in
    let text = rw (← c.self.view_is) at (returns-clause-text g c) in
    rw text (IsUtf8-from_ascii _
    (lines-ascii e.width e.ending (encoding a bytes) (omega (arith, i.3))
    (encoding_ascii a bytes g.met.E.Alphabet.ascii)))
