-- What a splitter has read of a log goes on with its next bytes.
use Rattle.std.proofs.Common.{◌≡◌, ◌∙◌, ◌⊎◌, ℕ, zero, suc, ◌+◌, ◌<◌, ◌==◌, List, [], ◌∷◌, ◌++◌, length, length-append, map, slice_index, Option, None, Some, Ok, Err, refl, ap, sym, subst, inl, inr, arith, append_assoc, append-nil, decimal, string_bytes, if◌then◌else◌}
use Rattle.std.specs.List.{filter}
use Rattle.std.proofs.lemmas.List.{length-map}
use Rattle.std.proofs.lemmas.List.Elements.{filter-append}
use Rattle.fdb_log_reader.specs.declared.part_text.Above.{Above}
use Rattle.fdb_log_reader.specs.declared.error.ReadError.{ReadError}
use Rattle.fdb_log_reader.specs.declared.part_text.PartText.{PartText}
use Rattle.fdb_log_reader.specs.declared.splitter.Splitter.{Splitter}
use Rattle.fdb_log_reader.specs.Reading.{lines_in}
use Rattle.fdb_log_reader.specs.Split.{AllPlaced, Placed, below, in_front, of_part, placed_lines}
use Rattle.fdb_log_reader.specs.Splitter.{HasPlaced, HasPlacedAll, HaveCome, above_of, counts_in, counts_of, placed_on, texts_in, texts_of}
use Rattle.fdb_split.specs.Program.{HasCut, Prints, cut}
use Rattle.fdb_split.specs.Text.{counts_listed, object_of, split_text}
use Rattle.fdb_split.specs.declared.split_arguments.SplitArguments.{SplitArguments}
use Rattle.fdb_split.specs.private.{HasReleased}

none_in_front : (placed : AllPlaced) → in_front [] placed ≡ placed
none_in_front (Ok more) = refl
none_in_front (Err error) = refl

both_in_front : (first next : List Placed) (placed : AllPlaced) → in_front first (in_front next placed) ≡ in_front (first ++ next) placed
both_in_front first next (Ok more) = ap (λ (l : List Placed). let it : AllPlaced = Ok (l, more.1) in it) (sym (append_assoc first next more.0))
both_in_front first next (Err error) = refl

parts_many : (parts : List PartText) → length (texts_in parts) ≡ length parts
parts_many parts = length-map parts (λ (part : PartText). part.text.items)

come_counts : (placed more : List Placed) (old new : List PartText) (parts : ℕ) → HaveCome more old new → length (texts_in old) ≡ parts
    → ((part : ℕ) → part < parts → slice_index (counts_in old) part ≡ length (of_part part placed))
    → (part : ℕ) → part < parts → slice_index (counts_in new) part ≡ length (of_part part (placed ++ more))
come_counts placed more old new parts come many counts part lt =
    let size = parts_many old in
    let inside : part < length old = omega arith in
    let one = come.counts part inside in
    let was = counts part lt in
    let both = ap length (filter-append (λ (it : Placed). it.part == part) placed more) in
    let sum = length-append (of_part part placed) (of_part part more) in
    omega arith

pub cut_on : (asked : SplitArguments) (old new : Splitter) (bytes more : List ℕ) (placed : List Placed) → HasCut asked old bytes → HasPlaced old more placed new → HasCut asked new (bytes ++ more)
cut_on asked old new bytes more placed so on =
    let many = parts_many old.placer.parts.items in
    let same = parts_many new.placer.parts.items in
    let as_many = on.come.as_many in
    let were = so.parts in
    record {
      placed = so.placed ++ placed;
      goes = λ rest.
          ap (cut asked) (append_assoc bytes more rest)
          ∙ (so.goes (more ++ rest) ∙ (ap (in_front so.placed) (on.goes rest) ∙ both_in_front so.placed placed (placed_on new rest)));
      parts = omega arith;
      counts = come_counts so.placed placed old.placer.parts.items new.placer.parts.items asked.parts on.come so.parts so.counts;
    }

pub not_cut : (asked : SplitArguments) (old : Splitter) (bytes more after : List ℕ) (error : ReadError) → HasCut asked old bytes
    → ((rest : List ℕ) → placed_on old (more ++ rest) ≡ Err error) → cut asked (bytes ++ (more ++ after)) ≡ Err error
not_cut asked old bytes more after error so refused = so.goes (more ++ after) ∙ ap (in_front so.placed) (refused after)

pub not_ended : (asked : SplitArguments) (old : Splitter) (bytes : List ℕ) (error : ReadError) → HasCut asked old bytes → placed_on old [] ≡ Err error → cut asked bytes ≡ Err error
not_ended asked old bytes error so refused = ap (cut asked) (sym (append-nil bytes)) ∙ (so.goes [] ∙ ap (in_front so.placed) refused)

pub released : (asked : SplitArguments) (old new : Splitter) (bytes : List ℕ) → HasReleased old new → HasCut asked old bytes → HasCut asked new bytes
released asked old new bytes is so =
    let parts = is.parts in
    let were = so.parts in
    record {
      placed = so.placed;
      goes = λ rest. so.goes rest ∙ ap (in_front so.placed) (sym (is.goes rest));
      parts = omega arith;
      counts = λ part lt. ap (λ (counts : List ℕ). slice_index counts part) is.counts ∙ so.counts part lt;
    }

pub begun : (asked : SplitArguments) (it : Splitter) → ((log : List ℕ) → placed_on it log ≡ placed_lines (string_bytes asked.key) asked.parts (below asked.first) (lines_in log))
    → length (texts_of it) ≡ asked.parts → ((part : ℕ) → slice_index (counts_of it) part ≡ 0) → HasCut asked it []
begun asked it placed parts counts = record {
  placed = [];
  goes = λ rest. sym (placed rest) ∙ sym (none_in_front (placed_on it rest));
  parts = parts;
  counts = λ part lt. counts part;
}

-- ---- what is printed

listed_same : (count other : ℕ → ℕ) (n : ℕ) → ((part : ℕ) → part < n → count part ≡ other part) → counts_listed count n ≡ counts_listed other n
listed_same count other zero same = refl
listed_same count other (suc n) same =
    λ i. listed_same count other n (λ part lt. same part (omega (arith, lt))) i ++ (if n == 0 then [] else 44 ∷ []) ++ decimal (same n (omega arith) i)

pub printed : (asked : SplitArguments) (old it last : Splitter) (bytes text : List ℕ) (placed : List Placed) → HasCut asked old bytes → HasPlacedAll old placed it → HasReleased it last
    → text ≡ object_of (counts_listed (λ part. slice_index (counts_of last) part) (length (texts_of last))) (above_of last) → Prints asked bytes text
printed asked old it last bytes text placed so all is said =
    let many = parts_many old.placer.parts.items in
    let same = parts_many it.placer.parts.items in
    let as_many = all.come.as_many in
    let were = so.parts in
    let left = is.parts in
    let parts : length (texts_of last) ≡ asked.parts = omega arith in
    let counts = come_counts so.placed placed old.placer.parts.items it.placer.parts.items asked.parts all.come so.parts so.counts in
    record {
      placed = so.placed ++ placed;
      above = above_of it;
      all = ap (cut asked) (sym (append-nil bytes)) ∙ (so.goes [] ∙ ap (in_front so.placed) all.all);
      printed = said
          ∙ ((λ i. object_of (counts_listed (λ part. slice_index (is.counts i) part) (parts i)) (is.above i))
          ∙ ap (λ (listed : List ℕ). object_of listed (above_of it)) (listed_same (λ part. slice_index (counts_of it) part) (λ part. length (of_part part (so.placed ++ placed))) asked.parts counts));
    }
