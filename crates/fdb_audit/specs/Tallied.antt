-- What the counts of faults hold. (this product's own)
use Rattle.std.specs.Prelude.{◌≡◌, ℕ, ◌<◌, List, Option, All, Contains, length, map, slice_index_or, string_bytes, unwrap_or}
use Rattle.std.specs.BTreeMap.{get, get_by_text}
use Rattle.std.specs.Ordering.{nat_cmp}
use Rattle.fdb_lines.specs.declared.fault.Fault.{Fault}
use Rattle.fdb_lines.specs.declared.fault.Fault.TheVariants.{Order, Wrong, NotAbove, Twice, Stray}
use Rattle.fdb_log_reader.specs.Numbers.{number_in}
use Rattle.fdb_audit.specs.Counting.{how_many_of}
use Rattle.fdb_audit.specs.Groups.{kinds_of, number_of, of_group, Owned}
use Rattle.fdb_audit.specs.ToldFaults.{ToldFault, by_text, text_of}
use Rattle.fdb_audit.specs.declared.groups.Group.{Group}
use Rattle.fdb_audit.specs.declared.groups.Tally.{Tally}
use Rattle.fdb_audit.specs.declared.told_faults.TextGroups.{TextGroups}
use Rattle.fdb_audit.specs.declared.figures.KindCounts.{KindCounts}

-- so many of these are of each kind
pub record HasKinds (counts : KindCounts) (all : List Fault) : Type 0 where
  pub faults : counts.faults ≡ length all
  pub order : counts.order ≡ how_many_of Order all
  pub wrong : counts.wrong ≡ how_many_of Wrong all
  pub not_above : counts.not_above ≡ how_many_of NotAbove all
  pub twice : counts.twice ≡ how_many_of Twice all
  pub stray : counts.stray ≡ how_many_of Stray all

abbrev pub no_kinds : KindCounts
no_kinds = record { faults = 0; order = 0; wrong = 0; not_above = 0; twice = 0; stray = 0 }

-- how many are counted under a number, and of a group
abbrev pub kinds_at : Tally → ℕ → KindCounts
kinds_at tally number = unwrap_or (get nat_cmp tally.counts number) no_kinds

abbrev pub count_in : Tally → Option ℕ → ℕ
count_in tally group = (kinds_at tally (number_of group)).faults

-- a group has as many faults as it owns
abbrev pub IsGroupIn : (Option ℕ → ℕ) → Group → Type 0
IsGroupIn count group = group.faults.0 ≡ count group.owner

-- These faults are counted, each under its group; those that have some are known.
pub record HasTallied (tally : Tally) (owned : List Owned) : Type 0 where
  pub faulty : All (λ group. 0 < length (of_group owned group)) tally.owners.items
  pub all : (group : Option ℕ) → 0 < length (of_group owned group) → Contains tally.owners.items group
  pub counts : (group : Option ℕ) → HasKinds (kinds_at tally (number_of group)) (kinds_of (of_group owned group))

-- the texts that have numbers, and that each has its own
abbrev pub texts_in : TextGroups → List (List ℕ)
texts_in groups = map string_bytes groups.texts.items

abbrev pub AreNumbered : TextGroups → Type 0
AreNumbered groups = (text : List ℕ) → get_by_text groups.numbers text ≡ number_in (texts_in groups) text

-- the faults that were told are counted by their texts, as far as there is room
pub record HasTexts (its : ToldFault → Option (List ℕ)) (told : List ToldFault) (groups : TextGroups) : Type 0 where
  pub texts : texts_in groups ≡ (by_text its told).texts
  pub numbers : AreNumbered groups
  pub tally : HasTallied groups.tally (by_text its told).owned
  pub more : groups.more ≡ (by_text its told).more

-- by what was printed of each of these members
pub record HasTextsIn (members : List (List ℕ)) (told : List ToldFault) (texts : List TextGroups) : Type 0 where
  pub members_are : map (λ (groups : TextGroups). string_bytes groups.member) texts ≡ members
  pub each : (member : ℕ) (other : TextGroups) → member < length texts → HasTexts (text_of member) told (slice_index_or texts member other)
