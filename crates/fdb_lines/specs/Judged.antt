-- What is found of a log: of all lines together, or of those of each key by themselves, where lines have keys. (this product's own)
use Rattle.std.specs.Prelude.{◌≡◌, ℕ, cond, List, All, IfSome, Option, None, Some, length, map, option_map, slice_get}
use Rattle.fdb_lines.specs.declared.fault.Found.{Found}
use Rattle.fdb_lines.specs.declared.order.KeyOrder.{KeyOrder}
use Rattle.fdb_lines.specs.declared.order.Order.{Order}
use Rattle.fdb_lines.specs.declared.order.Order.TheVariants.{One, ByKey}
use Rattle.fdb_lines.specs.declared.log.AuditOpts.{AuditOpts}
use Rattle.fdb_lines.specs.declared.fault.Finding.{Finding}
use Rattle.fdb_lines.specs.declared.log.Summary.{Summary}
use Rattle.fdb_lines.specs.Audit.{case_of, AreExplained}
use Rattle.fdb_lines.specs.Keys.{faults_by_key, keys_of, AreExplainedByKey, HasLateByKey, HasReasonByKey}
use Rattle.fdb_lines.specs.KeyOrders.{IsOrderOfKey}
use Rattle.fdb_lines.specs.Late.{HasLate}
use Rattle.fdb_lines.specs.Lines.{Lines, is_ask, is_commit, is_learn, is_read, is_report}
use Rattle.fdb_lines.specs.Listing.{faults_of}
use Rattle.fdb_lines.specs.OrderSteps.{IsOrderOf}
use Rattle.fdb_lines.specs.Reasons.{found_of, HasReason}
use Rattle.fdb_lines.specs.Summary.{how_many, ordered, ordered_by_key, unreported, unreported_by_key}

-- where lines have keys, each has its own
abbrev pub HaveKeys : Lines → Option (List (Option ℕ)) → Type 0
HaveKeys log keys = IfSome keys (λ each. length each ≡ length log.lines)

-- some history explains the lines, or for each key one explains its lines
abbrev pub AreExplainedIn : Lines → Option (List (Option ℕ)) → AuditOpts → Type 0
AreExplainedIn log None opts = AreExplained (case_of log opts)
AreExplainedIn log (Some keys) opts = AreExplainedByKey log keys opts

abbrev pub faults_in : Lines → Option (List (Option ℕ)) → AuditOpts → List Found
faults_in log None opts = faults_of (case_of log opts)
faults_in log (Some keys) opts = faults_by_key log keys opts

-- a fault has a reason that is true of the lines, and it is told how late the call was
abbrev pub HasReasonIn : Lines → Option (List (Option ℕ)) → AuditOpts → Finding → Type 0
HasReasonIn log None opts finding = HasReason log opts finding
HasReasonIn log (Some keys) opts finding = HasReasonByKey log keys opts finding

abbrev pub HasLateIn : Lines → Option (List (Option ℕ)) → AuditOpts → Finding → Type 0
HasLateIn log None opts finding = HasLate log opts finding
HasLateIn log (Some keys) opts finding = HasLateByKey log keys opts finding

-- all faults, each once
pub record AreAll (log : Lines) (keys : Option (List (Option ℕ))) (opts : AuditOpts) (found : List Finding) : Type 0 where
  pub listed : map found_of found ≡ faults_in log keys opts
  pub reasons : All (HasReasonIn log keys opts) found
  pub late : All (HasLateIn log keys opts) found

-- the first of them, if there is one
pub record IsFirstFound (log : Lines) (keys : Option (List (Option ℕ))) (opts : AuditOpts) (first : Option Finding) : Type 0 where
  pub listed : option_map found_of first ≡ slice_get (faults_in log keys opts) 0
  pub reason : IfSome first (HasReasonIn log keys opts)
  pub late : IfSome first (HasLateIn log keys opts)

-- an order for each key
pub record AreOrders (log : Lines) (keys : List (Option ℕ)) (opts : AuditOpts) (orders : List KeyOrder) : Type 0 where
  pub each : map (λ order. order.key) orders ≡ keys_of keys
  pub explain : All (IsOrderOfKey log keys opts) orders

-- an order for all lines where they have no keys, and else one for each key
abbrev pub HasOrders : Lines → Option (List (Option ℕ)) → AuditOpts → Order → Type 0
HasOrders log None opts (One steps) = IsOrderOf (case_of log opts) steps.items
HasOrders log None opts (ByKey orders) = ⊥
HasOrders log (Some keys) opts (One steps) = ⊥
HasOrders log (Some keys) opts (ByKey orders) = AreOrders log keys opts orders.items

abbrev pub unreported_in : Lines → Option (List (Option ℕ)) → AuditOpts → ℕ
unreported_in log None opts = unreported (case_of log opts)
unreported_in log (Some keys) opts = unreported_by_key log keys opts

abbrev pub ordered_in : Lines → Option (List (Option ℕ)) → AuditOpts → ℕ
ordered_in log None opts = ordered (case_of log opts)
ordered_in log (Some keys) opts = ordered_by_key log keys opts

-- the counts of a verdict: the lines in all and of each kind, the versions that no line reports, and the pairs of lines
-- in order, where these have times
pub record IsSummary (log : Lines) (keys : Option (List (Option ℕ))) (opts : AuditOpts) (counts : Summary) : Type 0 where
  pub lines : counts.lines ≡ length log.lines
  pub timed : counts.timed ≡ cond log.timed (length log.lines) 0
  pub reads : counts.reads ≡ how_many is_read log.lines
  pub commits : counts.commits ≡ how_many is_commit log.lines
  pub asks : counts.asks ≡ how_many is_ask log.lines
  pub reports : counts.reports ≡ how_many is_report log.lines
  pub learns : counts.learns ≡ how_many is_learn log.lines
  pub unreported : counts.unreported ≡ unreported_in log keys opts
  pub ordered : counts.ordered ≡ cond log.timed (Some (ordered_in log keys opts)) None
