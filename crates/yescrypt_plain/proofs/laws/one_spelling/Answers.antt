use Rattle.yescrypt_plain.proofs.ParamFields.{params_of_text, text_of_params}
use Rattle.yescrypt_plain.proofs.laws.one_spelling.Goals as goal

pub returns : goal.returns
returns c = record { one = λ text params. (params_of_text text params, text_of_params text params) }
