-- Demand 3: what is compared after each call of a list, the premises, and the claim.
use Rattle.std.specs.Prelude.{ℕ, ◌/◌, ◌%◌, ◌≤◌, ◌≡◌, Bool, false, cond, List, [], ◌∷◌, length}
use Rattle.directory.specs.Steps.{ranges_kept, first_reset}
use Rattle.memory.specs.Parity.{Memory, Agrees}
use Rattle.refusal.specs.Call.{State, state, next_state}
use Rattle.calls.specs.Calls.{Call, flush, reset, test_write, step}
use Rattle.calls.specs.Plain.{PlainMemory, plain_memory, plain_told}
use Rattle.calls.specs.Matches.{kind_of, plants, empties, alters, KenInactive, Matches, sets_nw, Arises}

-- What stands beside the unit: a plain memory; or none, while the comparison is suspended.
pub data Comparison : Type 0 where
  beside : (m : PlainMemory) → Comparison
  suspended : Comparison

-- The plain memory begun anew.
abbrev pub anew : State → Comparison
anew s = beside (plain_memory s.memory.ram (ranges_kept s.directory))

-- "From the next flush or reset on it matches a plain memory begun anew from RAM as it then is", with the ranges that the directory keeps then: what stands
-- beside a call.
abbrev pub begun : Comparison → State → Call → Comparison
begun (beside m) s c = beside m
begun suspended s c = cond (empties (kind_of c)) (anew s) suspended

-- "up to its first accepted test write", and then "up to another test write": what stands beside the unit after a call.
abbrev pub ended : Comparison → State → Call → Comparison
ended (beside m) s c = cond (plants (kind_of c) (step s c).outcome.number) suspended (beside (plain_told s m c).memory)
ended suspended s c = suspended

-- A fact of a call that is compared, and of each such call of a list.
abbrev pub IfCompared : (State → PlainMemory → Call → Type 0) → State → Comparison → Call → Type 0
IfCompared P s (beside m) c = P s m c
IfCompared P s suspended c = Unit {0}

unfoldable pub EachCompared : (State → PlainMemory → Call → Type 0) → State → Comparison → List Call → Type 0
EachCompared P s b [] = Unit {0}
EachCompared P s b (c ∷ cs) =
    IfCompared P s (begun b s c) c × EachCompared P (next_state (step s c)) (ended (begun b s c) s c) cs

-- After each call of a list that is compared, of the unit in a state and what stands beside it.
abbrev pub AgreesAll : State → Comparison → List Call → Type 0
AgreesAll = EachCompared (λ s m c. Matches c (step s c) (plain_told s m c))

-- Demand 3's premise on the list: "no accepted control call sets NW to 1", for the calls that are compared.
abbrev pub NeverSetsNw : State → Comparison → List Call → Type 0
NeverSetsNw = EachCompared (λ s m c. sets_nw c ≡ false)

-- C-17: "agreement now needs KEN# inactive throughout these ranges", for the calls that are compared.
abbrev pub NoKenThere : State → Comparison → List Call → Type 0
NoKenThere = EachCompared (λ s m c. KenInactive m.rom c)

-- "and the ranges set right after reset and not altered": of the calls that are compared, none but the list's first is an accepted setting call.
abbrev pub NeverAlters : State → Comparison → List Call → Type 0
NeverAlters = EachCompared (λ s m c. alters (kind_of c) (step s c).outcome.number ≡ false)

abbrev pub AltersFirst : State → Comparison → List Call → Type 0
AltersFirst s b [] = Unit {0}
AltersFirst s b (c ∷ cs) = NeverAlters (next_state (step s c)) (ended (begun b s c) s c) cs

-- The premises on the list.
pub record Premises (s : State) (b : Comparison) (cs : List Call) : Type 0 where
  pub nw : NeverSetsNw s b cs
  pub ken : NoKenThere s b cs
  pub ranges : AltersFirst s b cs

-- Demand 3's premise on the start: document 01's lengths, "RAM has 16 to 16,777,216 bytes, a multiple of 16.", "The parity array has one byte for each
-- four RAM bytes", the data array 8,192 ("3. Data array is not 8,192 bytes."), and parity agrees.
pub record Legal (m : Memory) (array : List ℕ) : Type 0 where
  pub least : 16 ≤ length m.ram
  pub most : length m.ram ≤ 16777216
  pub whole : length m.ram % 16 ≡ 0
  pub parity_length : length m.parity ≡ length m.ram / 4
  pub array_length : length array ≡ 8192
  pub agrees : Agrees m

-- "The list starts from the directory that a reset gives, any RAM with which parity agrees, and any bytes in the data array."; C-17: "none at first".
abbrev pub begin : Memory → List ℕ → State
begin m array = state first_reset m array

abbrev pub beside_first : Memory → Comparison
beside_first m = beside (plain_memory m.ram [])

abbrev pub Demand3 : Type 0
Demand3 =
    (m : Memory) (array : List ℕ) (cs : List Call) → Legal m array → Premises (begin m array) (beside_first m) cs →
    AgreesAll (begin m array) (beside_first m) cs

-- What is claimed of a list goes on over every call that is no accepted test write.
abbrev pub GoesOn : Type 0
GoesOn =
    (s : State) (m : PlainMemory) (c : Call) (cs : List Call) →
    ((set way tag : ℕ) (mark : Bool) (bytes : List ℕ) → c ≡ test_write set way tag mark bytes → (step s c).outcome.number ≡ 0 → ⊥) →
    AgreesAll s (beside m) (c ∷ cs) → AgreesAll (next_state (step s c)) (beside (plain_told s m c).memory) cs

-- From a flush or a reset on, what is claimed of a list whose comparison is suspended is what is claimed of one that begins there.
pub record BegunAnew : Type 0 where
  pub at_flush : (s : State) (cs : List Call) → AgreesAll s suspended (flush ∷ cs) → AgreesAll s (anew s) (flush ∷ cs)
  pub at_reset : (s : State) (cs : List Call) → AgreesAll s suspended (reset ∷ cs) → AgreesAll s (anew s) (reset ∷ cs)

-- After each call of a list that is compared.
abbrev pub ArisesAll : State → Comparison → List Call → Type 0
ArisesAll = EachCompared (λ s m c. Arises (kind_of c) (step s c).outcome.number)

-- The claim, for every list with demand 3's premises.
abbrev pub NumbersThatArise : Type 0
NumbersThatArise =
    (m : Memory) (array : List ℕ) (cs : List Call) → Legal m array → Premises (begin m array) (beside_first m) cs →
    ArisesAll (begin m array) (beside_first m) cs
