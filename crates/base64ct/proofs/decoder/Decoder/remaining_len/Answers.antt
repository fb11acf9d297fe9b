use Rattle.std.proofs.Common.{◌-◌, List, ℕ, ap, sym, ◌∙◌}
use Rattle.base64ct.specs.Decoders.{text_or_nil}
use Rattle.base64ct.specs.Wrapping.{characters_from}
use Rattle.base64ct.proofs.Sizes.{size_is}
use Rattle.base64ct.proofs.decoder.Decoder.remaining_len.Goals as goal

pub returns-clause-size : goal.returns-clause-size
returns-clause-size g c =
    let i = c.self.invariant in
    let t : List ℕ = text_or_nil (characters_from c.self.inside.width c.self.inside.width c.self.inside.body.now) in
    rw (← c.self.view_is) (ap (λ (n : ℕ). n - c.self.inside.read)
    (i.whole ∙ sym (size_is g.E.Alphabet.alphabet t g.met.E.Alphabet.lawful i.stands.last)))
