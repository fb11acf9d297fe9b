use Rattle.std.proofs.Common.{arith, rules, ap, ℕ, List, ◌+◌, ◌*◌, ◌/◌, ◌-◌, ◌++◌, ◌∙◌, length, length-take-le, refl}
use Rattle.std.proofs.Common.{sym}
use Rattle.std.proofs.Common.{take}
use Rattle.std.proofs.lemmas.List.{length-take, take-take}
use Rattle.base64ct.specs.Alphabets.{base64_unpadded}
use Rattle.base64ct.proofs.DecodingLaws.{decoded_len-unpadded}
use Rattle.base64ct.proofs.Wrapping.{length-put_mid}
use Rattle.wrap_stream.proofs.SoFar.{few_unpadded, tail_put}
use Rattle.wrap_stream.proofs.Gathered.{lines_read}
use Rattle.wrap_stream.proofs.reader.read_lines.Goals as goal

pub returns-in-Ok : goal.returns-in-Ok
returns-in-Ok c =
    let len : ℕ = c.gather-lines.result.len in
    let buf : List ℕ = c.gather-lines.new.chars in
    let waiting : List ℕ = take c.args.reader.now.count c.args.reader.now.block in
    let few = length-take c.args.reader.now.count c.args.reader.now.block in
    let filled = length-take-le ((len + 3) / 4 * 4) buf (omega arith) in
    let d = c.in-Ok.ensures.decoded (few_unpadded (take ((len + 3) / 4 * 4) buf) ((len + 3) / 4 * 4) _ filled
    (omega arith) (omega (arith, few, c.gather-lines.ensures.few))) in
    let read = lines_read c.args.width c.in-Within.room c.gather-lines.result.room len
    ((len + 3) / 4 * 4) _ c.args.reader.now.place waiting buf (take c.gather-lines.result.taken c.args.text.now) _
    c.gather-lines.ensures.gathered c.in-Within.is (omega (arith, few)) (omega arith) refl (omega arith) refl d.2 in
    record {
      few = search rules;
      taken = search rules;
      count = search rules;
      none = search rules;
      state = c.behind_blocks.ensures.state ∙ sym read.0;
      bytes = record {
        put = tail_put c.args.at _ (len / 4 * 3) c.args.out.now c.decode_into.new.dst (omega arith) (omega arith)
            ∙ ap (λ (t : List ℕ). take c.args.at c.args.out.now ++ t) (sym (take-take
            (len / 4 * 3) c.in-Ok.field-0 c.decode_into.new.dst (omega
            (arith, d.0, decoded_len-unpadded base64_unpadded (take ((len + 3) / 4 * 4) buf) refl, filled)))
            ∙ sym read.1);
        within = omega (
          arith,
          length-put_mid c.args.at
              (length c.args.out.now - c.args.at) c.args.out.now c.decode_into.new.dst (omega arith) (omega arith),
        );
      };
    }
