use Rattle.std.proofs.Common.{◌≡◌, true, false, rules}
use Rattle.std.specs.Prelude.{◌==◌}
use Rattle.yescrypt_plain.proofs.Pushed.{pushed, pushed_time}
use Rattle.yescrypt_plain.proofs.params.push_yescrypt_params.Goals as goal

pub returns-then-params-ne0-clause-appended : goal.returns-then-params-ne0-clause-appended
returns-then-params-ne0-clause-appended g c =
    let some : (c.args.params.t == 0) ≡ false = search rules in
    pushed_time c.args.text.now c.push_number.new.text c.push_number-2.new.text c.push_number-3.new.text
    c.push_number-then-params-ne0.new.text c.push_number-then-params-ne0-2.new.text c.args.params
    c.push_number.ensures.appended c.push_number-2.ensures.appended c.push_number-3.ensures.appended
    c.push_number-then-params-ne0.ensures.appended c.push_number-then-params-ne0-2.ensures.appended some

pub returns-else-params-ne0-clause-appended : goal.returns-else-params-ne0-clause-appended
returns-else-params-ne0-clause-appended g c =
    let none : (c.args.params.t == 0) ≡ true = search rules in
    pushed c.args.text.now c.push_number.new.text c.push_number-2.new.text c.push_number-3.new.text c.args.params
    c.push_number.ensures.appended c.push_number-2.ensures.appended c.push_number-3.ensures.appended none
