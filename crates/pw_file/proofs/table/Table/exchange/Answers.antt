use Rattle.std.proofs.Common.{Err}
use Rattle.pw_file.specs.Answers.{done_of}
use Rattle.pw_file.specs.History.{text_in}
use Rattle.std.proofs.Common.{length}
use Rattle.pw_file.proofs.Calls.{set_content}
use Rattle.pw_file.proofs.TableAnswers.{error_is_no_value, exchange_done}
use Rattle.pw_file.proofs.table.Table.exchange.Goals as goal

pub returns-in-Some-clause-content : goal.returns-in-Some-clause-content
returns-in-Some-clause-content g c =
    λ h held. set_content g.P.Policy.policy g.met.P.Policy.lawful h c.args.self.now c.args.user.now held c.args.text.now (Err c.in-Some.e)
    (λ is. absurd (error_is_no_value c.in-Some.e tt is)) c.utf8.text

pub returns-in-None-clause-answer : goal.returns-in-None-clause-answer
returns-in-None-clause-answer g c =
    exchange_done g.P.Policy.policy c.args.user.now (text_in c.args.self.now c.args.user.now) (length c.args.self.now) c.args.text.now
    c.put_copy.result c.in-None.ensures.fault c.put_copy.ensures.answer

pub returns-in-None-clause-content : goal.returns-in-None-clause-content
returns-in-None-clause-content g c = λ h held.
    let name = rw c.as_str-name.ensures.text at c.as_str-name.ensures.name in
    rw c.put_copy.ensures.rows
    (set_content g.P.Policy.policy g.met.P.Policy.lawful h c.args.self.now c.args.user.now held c.args.text.now (done_of c.put_copy.result) (λ is. name)
    c.utf8.text)
