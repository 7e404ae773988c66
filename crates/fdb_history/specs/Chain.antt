-- Commit versions: a list of fresh answers, in the order in which they were given.
use Rattle.std.specs.Prelude.{◌≡◌, ℕ, ◌+◌, ◌-◌, ◌≤◌, ◌==◌, min, max, true, List, [], ◌∷◌, ◌++◌, Option, None, Some, length, slice_get, count_by}
use Rattle.fdb_history.specs.declared.chain.Issued.{Issued}
use Rattle.fdb_history.specs.declared.chain.TheConstants.{MAX_STEP}
use Rattle.fdb_history.specs.declared.register.TheConstants.{MAX_VERSION}

-- The microseconds since the version before, from 1 to MAX_STEP. So far a commit version is above
-- the one before it. A moment before the last one counts as no time at all. (getVersion of
-- masterserver, FoundationDB 7.1; whole microseconds, and the last sentence, are this product's
-- own)
abbrev pub step : ℕ → ℕ → ℕ
step last_at at = max 1 (min MAX_STEP (at - last_at))

-- The answer that was given last. (getVersion of masterserver has its version and its moment:
-- version, lastVersionTime)
abbrev pub last_answer : List Issued → Option Issued
last_answer answers = slice_get answers (length answers - 1)

-- The last version, or at first the end of the epoch before. The next one names it as the one
-- before it. (getVersion of masterserver: prevVersion, lastEpochEnd)
abbrev pub prev_after : ℕ → Option Issued → ℕ
prev_after epoch_end None = epoch_end
prev_after epoch_end (Some last) = last.version

-- The next version is a step above, at first the recovery version. (getVersion of masterserver:
-- recoveryTransactionVersion)
abbrev pub version_after : ℕ → Option Issued → ℕ → ℕ
version_after recovery None at = recovery
version_after recovery (Some last) at = last.version + step last.at at

-- How many fresh answers a commit proxy has got. Its latest number, since it numbers them from 1.
-- (latestRequestNum of CommitProxyVersionReplies, masterserver)
abbrev pub latest : ℕ → List Issued → ℕ
latest proxy answers = count_by (λ answer. answer.proxy == proxy) answers

-- An answer is the next one after those before it.
-- (getVersion of masterserver; ordinals, `fresh` and the bound on versions are this product's own)
pub record IsNext (epoch_end recovery : ℕ) (before : List Issued) (answer : Issued) : Type 0 where
  pub fresh : answer.fresh ≡ true
  pub ordinal : answer.ordinal ≡ length before
  pub num : answer.num ≡ latest answer.proxy before + 1
  pub prev : answer.prev ≡ prev_after epoch_end (last_answer before)
  pub version : answer.version ≡ version_after recovery (last_answer before) answer.at
  pub in_range : answer.version ≤ MAX_VERSION

-- Each of some answers is the next one after all before it. (this product's own)
abbrev pub GoesOn : ℕ → ℕ → List Issued → List Issued → Type 0
GoesOn epoch_end recovery before [] = Unit {0}
GoesOn epoch_end recovery before (answer ∷ later) =
    IsNext epoch_end recovery before answer
    × GoesOn epoch_end recovery (before ++ answer ∷ []) later

-- One chain: each answer is the next one, the first after none. (this product's own)
abbrev pub IsChain : ℕ → ℕ → List Issued → Type 0
IsChain epoch_end recovery answers = GoesOn epoch_end recovery [] answers
