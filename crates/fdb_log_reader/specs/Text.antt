-- What is printed of a text that is refused. (this product's own)
use Rattle.std.specs.Prelude.{ℕ, List, ◌++◌, codes, decimal}
use Rattle.fdb_log_reader.specs.declared.error.ReadError.{ReadError}
use Rattle.fdb_log_reader.specs.declared.error.Why.{Why}
use Rattle.fdb_log_reader.specs.declared.error.Why.TheVariants.{Empty, TooLong, TooMany, NotJson, NoCall, TwoCalls, SomeTimes, BadMember, BadKey, BadNumber, Memory}
use Rattle.fdb_log_reader.specs.Members.{name_of}

abbrev pub why_text : Why → ℕ → List ℕ
why_text Empty line = codes "Empty"
why_text TooLong line = codes "TooLong " ++ decimal line
why_text TooMany line = codes "TooMany " ++ decimal line
why_text NotJson line = codes "NotJson " ++ decimal line
why_text NoCall line = codes "NoCall " ++ decimal line
why_text TwoCalls line = codes "TwoCalls " ++ decimal line
why_text SomeTimes line = codes "SomeTimes " ++ decimal line
why_text (BadMember member) line = codes "BadMember " ++ decimal line ++ codes " " ++ name_of member
why_text BadKey line = codes "BadMember " ++ decimal line ++ codes " key"
why_text BadNumber line = codes "BadMember " ++ decimal line ++ codes " numbers"
why_text Memory line = codes "out of memory"

abbrev pub error_text : ReadError → List ℕ
error_text error = why_text error.why error.line
