use Rattle.std.proofs.Common.{rules}
use Rattle.fdb_live.proofs.MetadataWords.{says_the_bytes}
use Rattle.fdb_live.proofs.held.words_of_metadata.Goals as goal

pub returns-clause-back : goal.returns-clause-back
returns-clause-back c =
    says_the_bytes c.args.metadata c.from_be_bytes-first.result c.from.result (search rules) (search rules) (search rules) (search rules)
