use Rattle.std.proofs.Common.{[], length, arith, refl, ◌∙◌, sym}
use Rattle.std.proofs.lemmas.List.{append-nil}
use Rattle.base64ct.proofs.Wrapping.{line_wrote}
use Rattle.base64ct.proofs.lines.put_line.Goals as goal

pub returns : goal.returns
returns c = rw (c.put_ending-start.ensures.at, c.put_ending-start.ensures.written)
    (line_wrote c.args.width c.args.ending.now c.args.out.now c.args.ending.now c.args.chars.now []
    c.copy_from_slice.new.self c.args.position (length c.args.ending.now) _ (length c.args.chars.now)
    refl refl (c.copy_from_slice.ensures.after ∙ sym (append-nil c.args.chars.now)) refl c.requires.some c.requires.line
    (omega (arith, c.requires.fits)))
