-- What stays as texts of parts are written. (this product's own)
use Rattle.std.specs.Prelude.{◌≡◌, ℕ, List, length}
use Rattle.fdb_log_reader.specs.declared.splitter.Splitter.{Splitter}
use Rattle.fdb_log_reader.specs.Splitter.{above_of, counts_of, placed_on, texts_of}

-- The same log has been read, and of its parts some texts were released.
pub record HasReleased (old new : Splitter) : Type 0 where
  pub goes : (rest : List ℕ) → placed_on new rest ≡ placed_on old rest
  pub counts : counts_of new ≡ counts_of old
  pub parts : length (texts_of new) ≡ length (texts_of old)
  pub above : above_of new ≡ above_of old
