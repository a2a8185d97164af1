-- What the look-over answers for two files: the first no of questions 1 to 12, or what was read. Assumes nothing.
use Rattle.std.specs.Prelude.{ℕ, ◌+◌, ◌-◌, ◌*◌, ◌%◌, ◌^◌, Bool, true, false, cond, ◌&&◌, ◌||◌, List, length, Some, None, Option, ◌==◌, nat_le, nat_lt, slice_index}
use Rattle.format.specs.Words.{words, kind, content, head_booleans, head_clocks}
use Rattle.format.specs.Places.{File, Head, Tally, Context, Scan, scan}
use Rattle.format.specs.Places.File.{model, zones}
use Rattle.format.specs.Places.Section.{head}
use Rattle.format.specs.Places.Slot.{opening}
use Rattle.format.specs.Places.Scan.{stopped, passed}

-- a question to a whole file, by its number and the place of its no
abbrev pub refuse : Bool → ℕ → ℕ → Scan → Scan
refuse true n p more = more
refuse false n p more = stopped n p

-- 3. Is its last word an end with the right count?
abbrev pub ends_right : List ℕ → Bool
ends_right ws = kind (slice_index ws (length ws - 1)) == 15 && content (slice_index ws (length ws - 1)) == length ws - 1

-- 4. Is its first word a head with B at most 24 and other bits zero, in the list equal to the model's?
abbrev pub head_fits : ℕ → Bool
head_fits w = kind w == 1 && nat_lt (content w) (2 ^ 9) && nat_le (head_booleans w) 24

abbrev pub head_right : Option ℕ → ℕ → Bool
head_right None w = head_fits w
head_right (Some m) w = head_fits w && w == m

abbrev pub head_at : ℕ → Head
head_at w = record { booleans = head_booleans w; clocks = head_clocks w }

-- before the first word
abbrev pub none_yet : Tally
none_yet = record { invariants = 0; commands = 0; bads = 0; zones = 0 }

abbrev pub at_opening : Context
at_opening = record { section = head; urgent = false; tally = none_yet }

-- Questions 1 to 4 in order, then 5 to 11 at each word. `like` is the model's first word, for a list.
abbrev pub file_walk : File → Option ℕ → List ℕ → Scan
file_walk f like bs =
    refuse (nat_le (length bs) 65532) 1 0
    (refuse (length bs % 4 == 0 && nat_le 8 (length bs)) 2 0
    (refuse (ends_right (words bs)) 3 (length (words bs) - 1)
    (refuse (head_right like (slice_index (words bs) 0)) 4 0
    (scan (head_at (slice_index (words bs) 0)) at_opening (opening f) 0 (words bs)))))

-- where a fault is found
pub data Layer : Type 0 where
  file_layer : Layer
  record_layer : Layer
  word_layer : Layer

-- file for questions 1 to 4 and 12, word for 6 to 8, record for the rest
abbrev pub layer_of : ℕ → Layer
layer_of n = cond (nat_le n 4 || n == 12) file_layer (cond (nat_le 6 n && nat_le n 8) word_layer record_layer)

-- what was read
pub record Counts : Type 0 where
  pub booleans : ℕ
  pub clocks : ℕ
  pub invariants : ℕ
  pub commands : ℕ
  pub bads : ℕ
  pub zones : ℕ
  pub checks : ℕ

-- pass, or a fault: number, file, word, layer
pub data Outcome : Type 0 where
  pass : Counts → Outcome
  fault : ℕ → File → ℕ → Layer → Outcome

-- the start check; for each zone its bad checks, its time check and its command checks
abbrev pub checks_of : Tally → Tally → ℕ
checks_of m l = 1 + l.zones * (m.bads + 1 + m.commands)

abbrev pub counts_of : ℕ → Tally → Tally → Counts
counts_of w m l = record {
  booleans = head_booleans w;
  clocks = head_clocks w;
  invariants = m.invariants;
  commands = m.commands;
  bads = m.bads;
  zones = l.zones;
  checks = checks_of m l;
}

-- 12. Are there at most 65,535 checks with no zone struck?
abbrev pub look_list_answer : ℕ → Tally → Scan → Outcome
look_list_answer w m (stopped n p) = fault n zones p (layer_of n)
look_list_answer w m (passed l) = cond (nat_le (checks_of m l) 65535) (pass (counts_of w m l)) (fault 12 zones 0 (layer_of 12))

abbrev pub look_model_answer : ℕ → Scan → (Option ℕ → Scan) → Outcome
look_model_answer w (stopped n p) list_walk = fault n model p (layer_of n)
look_model_answer w (passed m) list_walk = look_list_answer w m (list_walk (Some w))

-- The model is asked all of 1 to 11 before the list is asked 1.
unfoldable pub look_over_answer : List ℕ → List ℕ → Outcome
look_over_answer ms zs = look_model_answer (slice_index (words ms) 0) (file_walk model None ms) (λ like. file_walk zones like zs)
