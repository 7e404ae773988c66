-- What is known of a log that was read with the keys of its lines. (this product's own)
use Rattle.std.specs.Prelude.{◌≡◌, ◌<◌, All, IfSome, Some, false, length}
use Rattle.fdb_lines.specs.declared.line.Line.{Line}
use Rattle.fdb_lines.specs.Lines.{has_times, is_learn, kind_of}
use Rattle.fdb_log_reader.specs.Columns.{KeyColumn}
use Rattle.fdb_log_reader.specs.Named.{StandOnce}
use Rattle.fdb_log_reader.specs.Numbers.{AreWithin}
use Rattle.fdb_log_reader.specs.Reading.{Reading}

-- Each line has the number of its key, or none; the numbers of clients and of keys are those of names, of which each stands once; all
-- lines have times or none has; and no line has learnt.
pub record IsReadByKey (reading : Reading) (keys : KeyColumn) : Type 0 where
  pub keyed : reading.keys ≡ Some keys
  pub cells : length keys.numbers ≡ length reading.log.lines
  pub clients_once : StandOnce reading.names
  pub keys_once : StandOnce keys.keys
  pub clients : All (λ (line : Line). IfSome line.client (λ client. client < length reading.names)) reading.log.lines
  pub keys_within : AreWithin keys.keys keys.numbers
  pub timed : All (λ (line : Line). has_times line ≡ reading.log.timed) reading.log.lines
  pub learns : All (λ (line : Line). is_learn (kind_of line.call) ≡ false) reading.log.lines
