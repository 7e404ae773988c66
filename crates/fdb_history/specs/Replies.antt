-- The replies that are kept for one commit proxy, and for all of them.
-- (CommitProxyVersionReplies of masterserver, FoundationDB 7.1; the places, and how they are found,
-- are this product's own)
use Rattle.std.specs.Prelude.{◌≡◌, ℕ, ◌-◌, ◌<◌, ◌==◌, nat_le, min, max, List, [], ◌∷◌, ◌++◌, length, Option, None, Some, slice_get, slice_set, All, if◌then◌else◌}
use Rattle.std.specs.List.{slice_index_or}
use Rattle.std.specs.Option.{option_and_then}
use Rattle.fdb_history.specs.Issuing.{kept}
use Rattle.fdb_history.specs.Chain.{latest}
use Rattle.fdb_history.specs.declared.chain.Issued.{Issued}

-- Where the answers of a proxy stand in the chain, in the order of their numbers, which begin at 1;
-- and the number up to which none is kept.
pub record KeptReplies : Type 0 where
  pub places : List ℕ
  pub erased : ℕ

abbrev pub no_replies : KeptReplies
no_replies = record { places = []; erased = 0 }

-- The place of the answer under a number, if it is kept.
abbrev pub place_of : KeptReplies → ℕ → Option ℕ
place_of replies num =
    if nat_le num replies.erased then None else slice_get replies.places (num - 1)

-- The place of the answer under a number, whether it is still kept or not.
abbrev pub drawn_place : KeptReplies → ℕ → Option ℕ
drawn_place replies num = if num == 0 then None else slice_get replies.places (num - 1)

-- The replies after one more answer of the proxy, at this place. Those that it has processed are
-- erased, but not the new one.
abbrev pub replies_after : KeptReplies → ℕ → ℕ → KeptReplies
replies_after replies place processed =
    record {
      places = replies.places ++ place ∷ [];
      erased = min (max processed replies.erased) (length replies.places);
    }

-- The answer under a number, if it is kept.
abbrev pub reply : List Issued → KeptReplies → ℕ → Option Issued
reply answers replies num = option_and_then (slice_get answers) (place_of replies num)

-- The replies of a proxy are those that the definition keeps of these answers.
pub record AreRepliesOf (proxy : ℕ) (answers : List Issued) (replies : KeptReplies) : Type 0 where
  pub count : length replies.places ≡ latest proxy answers
  pub in_range : All (λ place. place < length answers) replies.places
  pub look_up : (num : ℕ) → kept proxy num answers ≡ reply answers replies num

-- The replies of all proxies, each at its own place.
abbrev pub AreRepliesOfAll : List Issued → List KeptReplies → Type 0
AreRepliesOfAll answers all =
    (proxy : ℕ) (own : KeptReplies) → slice_get all proxy ≡ Some own
    → AreRepliesOf proxy answers own

-- The replies of all proxies after one more answer: those of the proxy that got it have changed.
abbrev pub all_after : List KeptReplies → Issued → List KeptReplies
all_after all answer =
    slice_set all answer.proxy
    (replies_after (slice_index_or all answer.proxy no_replies) answer.ordinal answer.processed)
