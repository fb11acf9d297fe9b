use Rattle.std.proofs.Common.{arith, rules, ◌∙◌, ◌≡◌, take, length, length-take-le, ap, ◌++◌}
use Rattle.line_io.specs.Buffer.{pending}
use Rattle.line_io.proofs.BufferLaws.{filled, kept}
use Rattle.line_io.proofs.buffer.LineBuffer.fill.Goals as goal

pub returns-in-Ok-clause-fills : goal.returns-in-Ok-clause-fills
unfolding pending
returns-in-Ok-clause-fills g c =
    let len : length (take c.in-Ok.count c.read.new.buf) ≡ c.in-Ok.count =
    length-take-le c.in-Ok.count c.read.new.buf c.in-Ok.ensures.bound.0 in
    record {
      bytes = take c.in-Ok.count c.read.new.buf;
      consumed = c.in-Ok.ensures.bytes.0;
      added = filled c.make_room.new.self.bytes c.read.new.buf c.make_room.new.self.start c.make_room.new.self.end _
          c.in-Ok.count (search rules) (search rules) c.in-Ok.ensures.bound.0
          ∙ ap (λ xs. xs ++ take c.in-Ok.count c.read.new.buf) c.make_room.ensures.pending;
      counted = omega (arith, len, c.make_room.ensures.rest.taken_same);
      end = rw len (search rules);
      at_end = λ e. c.in-Ok.ensures.bytes.1 (omega (arith, len, e))
          (omega (
            arith,
            c.make_room.ensures.room,
            c.make_room.ensures.rest.taken_same,
            c.make_room.ensures.rest.max_same,
          ));
      max_same = c.make_room.ensures.rest.max_same;
      closed_same = c.make_room.ensures.rest.closed_same;
    }

pub returns-in-Err-clause-err : goal.returns-in-Err-clause-err
unfolding pending
returns-in-Err-clause-err g c = (
  record {
    pending_same = kept c.make_room.new.self.bytes c.read.new.buf c.make_room.new.self.start c.make_room.new.self.end _
        (search rules) (search rules)
        ∙ c.make_room.ensures.pending;
    rest = record {
      taken_same = c.make_room.ensures.rest.taken_same;
      max_same = c.make_room.ensures.rest.max_same;
      ended_same = c.make_room.ensures.rest.ended_same;
      closed_same = c.make_room.ensures.rest.closed_same;
    };
  },
  c.in-Err.ensures.bytes,
)
