use Rattle.std.proofs.Common.{◌≡◌, ◌⊎◌, ℕ, ◌+◌, ◌<◌, true, false, List, length, ap, arith, rules}
use Rattle.std.specs.Prelude.{is_ok}
use Rattle.pw_store.specs.Progress.{count_of, held_by, oks}
use Rattle.pw_store.specs.Staged.{lines_of, rows_in}
use Rattle.pw_store.specs.Store.{StandsFor}
use Rattle.pw_store.specs.Stored.{rows_of, size_of, takes_changes}
use Rattle.pw_store.proofs.Fates.{not_both}
use Rattle.pw_store.proofs.Progressing.{failed, settled}
use Rattle.pw_store.proofs.Serving.{base_rows, left_now, positive}
use Rattle.pw_store.proofs.store.Store.commit.Goals as goal

pub returns-in-Ok-clause-goes_on : goal.returns-in-Ok-clause-goes_on
returns-in-Ok-clause-goes_on g c = λ from asked all so_far.
    let opened : takes_changes c.args.self.now ≡ true = search rules in
    let still : takes_changes c.settle.new.self ≡ true = search rules in
    let none : length (lines_of c.settle.new.group) ≡ 0 = ap length c.settle.ensures.lines in
    let more = c.in-Ok.ensures.size opened in
    let size : size_of c.settle.new.self + length (lines_of c.settle.new.group) ≡ size_of c.args.self.now + length (lines_of c.args.group.now) = omega (arith, none, more) in
    settled g.P.Policy.policy g.D.Device.seen g.D.Device.may_leave g.D.Device.moment g.D.Device.left_since g.D.Device.faults from asked
    (held_by c.args.self.now c.args.group.now) (oks (count_of c.args.group.now)) c.args.out.now
    (g.K.Sink.written c.args.sink.now) (g.K.Sink.faults c.args.sink.now) all so_far opened (held_by c.settle.new.self c.settle.new.group) (ap length c.settle.ensures.undo)
    c.put_words.new.out (g.K.Sink.written c.put_words.new.sink) (g.K.Sink.faults c.put_words.new.sink) (c.settle.ensures.any_moment opened)
    still c.in-Ok.ensures.done size (base_rows g.P.Policy.policy (g.D.Device.seen c.settle.new.self.log.device) (rows_of c.settle.new.self) (c.settle.ensures.sound.rows still))
    c.settle.ensures.count (rw c.count-count.ensures.count at c.put_words.ensures.puts)

pub returns-in-Err-clause-goes_on : goal.returns-in-Err-clause-goes_on
returns-in-Err-clause-goes_on g c = λ from asked all so_far.
    let opened : takes_changes c.args.self.now ≡ true = search rules in
    let broken : takes_changes c.settle.new.self ≡ false = search rules in
    let log = c.args.self.now.log in
    let P : List ℕ → Type 0 = λ f. StandsFor g.P.Policy.policy (rows_in g.P.Policy.policy (g.D.Device.seen log.device)) f ⊎ StandsFor g.P.Policy.policy (rows_of c.args.self.now) f in
    let some : 0 < count_of c.args.group.now = positive (count_of c.args.group.now) (λ is. not_both (is_ok c.settle.result) (c.settle.ensures.some (c.requires.ready.some is)) (ap is_ok c.in-Err.is)) in
    failed g.P.Policy.policy g.D.Device.seen g.D.Device.may_leave g.D.Device.moment g.D.Device.left_since g.D.Device.faults from asked
    (held_by c.args.self.now c.args.group.now) (oks (count_of c.args.group.now)) c.args.out.now
    (g.K.Sink.written c.args.sink.now) (g.K.Sink.faults c.args.sink.now) all so_far opened (held_by c.settle.new.self c.settle.new.group) (ap length c.settle.ensures.undo)
    c.put_words-in-Err.new.out (g.K.Sink.written c.put_words-in-Err.new.sink) (g.K.Sink.faults c.put_words-in-Err.new.sink) (c.settle.ensures.any_moment opened)
    all broken c.in-Err.ensures.back some
    (left_now g.D.Device.moment g.D.Device.may_leave g.D.Device.left_since g.met.D.Device.counts_now log.device c.settle.new.self.log.device P (c.settle.ensures.any_moment opened))
    c.in-Err.ensures.failed c.settle.ensures.count (rw c.count-count.ensures.count at c.put_words-in-Err.ensures.puts)
