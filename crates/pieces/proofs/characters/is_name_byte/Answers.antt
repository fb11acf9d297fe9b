use Rattle.std.proofs.Common.{rules}
use Rattle.pieces.proofs.characters.is_name_byte.Goals as goal

pub returns-else-is_ascii_digit : goal.returns-else-is_ascii_digit
returns-else-is_ascii_digit c = search rules
