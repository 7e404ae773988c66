-- What a client's calls so far have drawn. (this product's own)
use Rattle.std.specs.Prelude.{ℕ, List, Option, slice_get, if◌then◌else◌}
use Rattle.std.specs.Option.{option_and_then, option_map}
use Rattle.fdb_history.specs.Replies.{KeptReplies, drawn_place, replies_after}
use Rattle.fdb_history.specs.declared.chain.Issued.{Issued}
use Rattle.fdb_history.specs.declared.log.CallAnswer.{CallAnswer}
use Rattle.fdb_history.specs.declared.log.CallAnswer.TheVariants.{Version, Answered, Acked, Told, Refused}

-- the version that was drawn under a number, whether its answer is still kept or not
abbrev pub drawn_version : List Issued → KeptReplies → ℕ → Option ℕ
drawn_version chain own num =
    option_map (λ entry. entry.version) (option_and_then (slice_get chain) (drawn_place own num))

-- what a client has drawn, after a call's answer
abbrev pub own_after : KeptReplies → CallAnswer → KeptReplies
own_after own (Answered issued) =
    if issued.fresh then replies_after own issued.ordinal issued.processed else own
own_after own (Version rec limits locked_out) = own
own_after own (Acked rec raised changed) = own
own_after own Told = own
own_after own (Refused cause) = own
