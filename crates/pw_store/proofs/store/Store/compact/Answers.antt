use Rattle.std.proofs.Common.{rules, ◌≡◌, ◌⊎◌, ⊎_elim, ℕ, List, length, true, ap, ◌∙◌, arith}
use Rattle.line_log.specs.Log.{Stands, open_lines, recovered}
use Rattle.line_log.proofs.Moments.{started, weaker}
use Rattle.pw_store.specs.Store.{StandsFor}
use Rattle.pw_store.specs.Stored.{rows_of, takes_changes}
use Rattle.pw_store.proofs.Grouped.{file_is, rest_left, rows_of_lines, stands_as}
use Rattle.pw_store.proofs.Rewritten.{rewritten_as}
use Rattle.pw_store.proofs.store.Store.compact.Goals as goal

pub rewrite-requires-clause-whole : goal.rewrite-requires-clause-whole
rewrite-requires-clause-whole g c =
    let is_open : takes_changes c.args.self.now ≡ true = search rules in
    (rewritten_as g.P.Policy.policy g.met.P.Policy.lawful (g.D.Device.seen c.args.self.now.log.device) (rows_of c.args.self.now) _ (c.requires.sound.rows is_open) c.in-Ok.ensures.few (c.as_slice.ensures.value ∙ c.in-Ok.ensures.lines)).whole

pub rewrite-requires-clause-short : goal.rewrite-requires-clause-short
rewrite-requires-clause-short g c =
    let size = ap length c.as_slice.ensures.value in
    omega (arith, size, c.len.ensures, c.if-len-gt-FILE_MAX.false)

pub returns-in-Ok-rewrite-clause-sound : goal.returns-in-Ok-rewrite-clause-sound
returns-in-Ok-rewrite-clause-sound g c =
    let is_open : takes_changes c.args.self.now ≡ true = search rules in
    let w = rewritten_as g.P.Policy.policy g.met.P.Policy.lawful (g.D.Device.seen c.args.self.now.log.device) (rows_of c.args.self.now) c.as_slice.result.now (c.requires.sound.rows is_open) c.in-Ok.ensures.few (c.as_slice.ensures.value ∙ c.in-Ok.ensures.lines) in
    record {
      settled = λ still. c.in-Ok-rewrite.ensures.accepted;
      rows = λ still. rows_of_lines g.P.Policy.policy _ (open_lines c.as_slice.result.now) (rows_of c.args.self.now) c.in-Ok-rewrite.ensures.lines w.again;
    }

pub returns-in-Ok-rewrite-clause-any_moment : goal.returns-in-Ok-rewrite-clause-any_moment
returns-in-Ok-rewrite-clause-any_moment g c = λ is_open.
    let file = g.D.Device.seen c.args.self.now.log.device in
    let rows = rows_of c.args.self.now in
    let bytes = c.as_slice.result.now in
    let w = rewritten_as g.P.Policy.policy g.met.P.Policy.lawful file rows bytes (c.requires.sound.rows is_open) c.in-Ok.ensures.few (c.as_slice.ensures.value ∙ c.in-Ok.ensures.lines) in
    let Q : List ℕ → Type 0 = λ f. Stands (recovered file) f ⊎ Stands (open_lines bytes) f in
    weaker g.D.Device.moment g.D.Device.left_since c.args.self.now.log.device c.rewrite.new.self.device Q (StandsFor g.P.Policy.policy rows) c.rewrite.ensures.any_moment
    (λ f has. ⊎_elim (λ was. stands_as g.P.Policy.policy (recovered file) rows f was (file_is g.P.Policy.policy file rows (c.requires.sound.rows is_open))) (λ new. stands_as g.P.Policy.policy (open_lines bytes) rows f new w.again) has)

pub returns-clause-any_moment : goal.returns-clause-any_moment
returns-clause-any_moment g c = λ is_open.
    let file = g.D.Device.seen c.args.self.now.log.device in
    let rows = rows_of c.args.self.now in
    let bytes = c.as_slice.result.now in
    let w = rewritten_as g.P.Policy.policy g.met.P.Policy.lawful file rows bytes (c.requires.sound.rows is_open) c.in-Ok.ensures.few (c.as_slice.ensures.value ∙ c.in-Ok.ensures.lines) in
    let Q : List ℕ → Type 0 = λ f. Stands (recovered file) f ⊎ Stands (open_lines bytes) f in
    weaker g.D.Device.moment g.D.Device.left_since c.args.self.now.log.device c.rewrite.new.self.device Q (StandsFor g.P.Policy.policy rows) c.rewrite.ensures.any_moment
    (λ f has. ⊎_elim (λ was. stands_as g.P.Policy.policy (recovered file) rows f was (file_is g.P.Policy.policy file rows (c.requires.sound.rows is_open))) (λ new. stands_as g.P.Policy.policy (open_lines bytes) rows f new w.again) has)

pub returns-in-Ok-rewrite-clause-lines : goal.returns-in-Ok-rewrite-clause-lines
returns-in-Ok-rewrite-clause-lines g c = λ done.
    let is_open : takes_changes c.args.self.now ≡ true = search rules in
    let w = rewritten_as g.P.Policy.policy g.met.P.Policy.lawful (g.D.Device.seen c.args.self.now.log.device) (rows_of c.args.self.now) c.as_slice.result.now (c.requires.sound.rows is_open) c.in-Ok.ensures.few (c.as_slice.ensures.value ∙ c.in-Ok.ensures.lines) in
    c.in-Ok-rewrite.ensures.lines ∙ w.lines

pub returns-in_default-clause-any_moment : goal.returns-in_default-clause-any_moment
returns-in_default-clause-any_moment g c = λ is_open.
    let log = c.args.self.now.log in
    let rows = rows_of c.args.self.now in
    started g.D.Device.moment g.D.Device.left_since log.device (StandsFor g.P.Policy.policy rows)
    (λ f left. rest_left g.P.Policy.policy g.D.Device.seen g.D.Device.may_leave log rows (c.requires.sound.settled is_open) (c.requires.sound.rows is_open) f (g.met.D.Device.only_now log.device f left))

pub returns-then-len-gt-FILE_MAX-clause-any_moment : goal.returns-then-len-gt-FILE_MAX-clause-any_moment
returns-then-len-gt-FILE_MAX-clause-any_moment g c = λ is_open.
    let log = c.args.self.now.log in
    let rows = rows_of c.args.self.now in
    started g.D.Device.moment g.D.Device.left_since log.device (StandsFor g.P.Policy.policy rows)
    (λ f left. rest_left g.P.Policy.policy g.D.Device.seen g.D.Device.may_leave log rows (c.requires.sound.settled is_open) (c.requires.sound.rows is_open) f (g.met.D.Device.only_now log.device f left))
