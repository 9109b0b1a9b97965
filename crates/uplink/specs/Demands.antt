-- The customer's three demands (document 00), a field for each sentence. They speak of whatever meets the contracts of build and recover, `Builds` and `Recovers`; that our functions meet them is what the check of this crate proves, and that they end and ask nothing of the caller is part of that.
-- To be believed: all of it. Assumes nothing.
use Rattle.std.specs.Prelude.{Bool, true, false, List, ◌++◌, ◌≡◌, ℕ, ◌+◌, ◌*◌, ◌≤◌, ◌<◌, length, get_or, take, drop}
use Rattle.coder.specs.Coder.{coded, uplink_words}
use Rattle.coder.specs.Cost.{against, cost, apart}
use Rattle.coder.specs.Nearest.{NotAfter}
use Rattle.whiten.specs.Whiten.{whitened}
use Rattle.interleave.specs.Interleave.{coded_bits, Length}
use Rattle.interleave.specs.Bursts.{heard, received}
use Rattle.payload.specs.Payload.{payload, payload_bits}
use Rattle.payload.specs.Open.{open_refusal}
use Rattle.uplink.specs.Answers.{Built, Recovery, built_refusal, recovered_refusal, recovered_length, recovered_mode, recovered_cost}
use Rattle.uplink.specs.Frame.{coded_payload, Frame}
use Rattle.uplink.specs.Build.{frame_size, Builds}
use Rattle.uplink.specs.Recover.{marks_good, silent, opened, Recovers}

-- the order of build's refusals: a number is given where its condition holds and none before it does
pub data FirstBuild (l mode size room : ℕ) : ℕ → Type 0 where
  short : l < 20 → FirstBuild l mode size room 1
  long : 255 < l → FirstBuild l mode size room 1
  size : Length l → (size ≡ l → ⊥) → FirstBuild l mode size room 2
  room : Length l → size ≡ l → room < frame_size l → FirstBuild l mode size room 3
  mode : Length l → size ≡ l → frame_size l ≤ room → 3 < mode → FirstBuild l mode size room 4
  done : Length l → size ≡ l → frame_size l ≤ room → mode ≤ 3 → FirstBuild l mode size room 0

-- a call that is not refused for its form, refusals 1 to 5
pub record Formed (l : ℕ) (marks values : List ℕ) (room : ℕ) : Type 0 where
  pub told : Length l
  pub marked : length marks ≡ l + 4
  pub valued : length values ≡ 24 * (l + 4)
  pub roomy : l ≤ room
  pub marks_are : marks_good marks ≡ true

-- the order of recover's refusals
pub data FirstRecover (l : ℕ) (marks values : List ℕ) (room : ℕ) : ℕ → Type 0 where
  short : l < 20 → FirstRecover l marks values room 1
  long : 255 < l → FirstRecover l marks values room 1
  marks : Length l → (length marks ≡ l + 4 → ⊥) → FirstRecover l marks values room 2
  values : Length l → (length values ≡ 24 * (l + 4) → ⊥) → FirstRecover l marks values room 2
  room : Length l → length marks ≡ l + 4 → length values ≡ 24 * (l + 4) → room < l → FirstRecover l marks values room 3
  mark : Length l → length marks ≡ l + 4 → length values ≡ 24 * (l + 4) → l ≤ room → marks_good marks ≡ false → FirstRecover l marks values room 5
  silence : Formed l marks values room → silent marks values ≡ true → FirstRecover l marks values room 6
  opening : Formed l marks values room → silent marks values ≡ false → FirstRecover l marks values room (open_refusal l (opened l marks values))

-- "Building and recovering take all inputs there are, come to an end, and refuse bad ones by number in a fixed order. The caller owes us no prior check. A refusal changes no byte of any buffer it was lent."
pub record Demand1 : Type 0 where
  pub build_order :
      {l mode : ℕ} {message before after : List ℕ} {answer : Built}
      → Builds l mode message before after answer → FirstBuild l mode (length message) (length before) (built_refusal answer)
  pub recover_order :
      {l : ℕ} {marks values before after : List ℕ} {answer : Recovery}
      → Recovers l marks values before after answer → FirstRecover l marks values (length before) (recovered_refusal answer)
  pub build_keeps :
      {l mode : ℕ} {message before after : List ℕ} {answer : Built}
      → Builds l mode message before after answer → (built_refusal answer ≡ 0 → ⊥) → after ≡ before
  pub recover_keeps :
      {l : ℕ} {marks values before after : List ℕ} {answer : Recovery}
      → Recovers l marks values before after answer → (recovered_refusal answer ≡ 0 → ⊥) → after ≡ before

-- a message that can be sent, and its mode
pub record Sendable (message : List ℕ) (mode : ℕ) : Type 0 where
  pub told : Length (length message)
  pub bytes : (i : ℕ) → i < length message → get_or message i 0 < 256
  pub modes : mode ≤ 3

-- a non-zero value on the right side of a coded bit: a positive one, 1 to 127, for 1 and a negative one, 128 to 255 as a byte, for 0
abbrev pub RightSide : Bool → ℕ → Type 0
RightSide true v = (0 < v) × (v < 128)
RightSide false v = (128 ≤ v) × (v < 256)

-- the message and the mode are returned, and bytes beyond the message are kept
pub record Returned (message : List ℕ) (mode : ℕ) (before after : List ℕ) (answer : Recovery) : Type 0 where
  pub refusal : recovered_refusal answer ≡ 0
  pub length_is : recovered_length answer ≡ length message
  pub mode_is : recovered_mode answer ≡ mode
  pub written : after ≡ message ++ drop (length message) before

-- the string behind a recovered message: the payload of the message, whitened, of least cost among all of the told length, and first among equals
pub record Behind (l : ℕ) (marks values message : List ℕ) (mode total : ℕ) : Type 0 where
  pub string : List Bool
  pub sized : length string ≡ payload_bits l
  pub payload_is : string ≡ whitened (payload message mode)
  pub total_is : total ≡ cost uplink_words (received l marks values) string
  pub least : (y : List Bool) → length y ≡ payload_bits l → cost uplink_words (received l marks values) string ≤ cost uplink_words (received l marks values) y
  pub first : (y : List Bool) → length y ≡ payload_bits l → cost uplink_words (received l marks values) y ≡ cost uplink_words (received l marks values) string → NotAfter string y

-- "A built frame is bit for bit what TS 103 357 says for the uplink. A frame heard with a non-zero value on the right side for every coded bit, by a receiver told its length and given room for it, comes back as exactly the message and mode it was built from."
pub record Demand2 : Type 0 where
  pub frame :
      {l mode : ℕ} {message before after : List ℕ} {answer : Built}
      → Builds l mode message before after answer → built_refusal answer ≡ 0 → Frame message mode (take (frame_size l) after)
  pub taken :
      {mode : ℕ} {message before after : List ℕ} {answer : Built}
      → Builds (length message) mode message before after answer → Sendable message mode → frame_size (length message) ≤ length before → built_refusal answer ≡ 0
  pub comes_back :
      {mode : ℕ} {message marks values before after : List ℕ} {answer : Recovery}
      → Sendable message mode
      → Formed (length message) marks values (length before)
      → ((j : ℕ) → j < coded_bits (length message) → RightSide (get_or (coded_payload message mode) j false) (heard (length message) marks values j))
      → Recovers (length message) marks values before after answer
      → Returned message mode before after answer

-- "Take every string of payload bits of the told length, its checks good or bad. The one behind a recovered message has coded bits that stand against the received values by a total weight that none of the others undercuts. Among equals it is the one with 0 at the first bit entering the coder where they differ. If a call isn't refused for its form, a frame was built for the told length, and twice the weight heard against it is less than the weight heard at the places where its coded bits differ from those of each other string, that frame's message and mode are returned."
pub record Demand3 : Type 0 where
  pub behind :
      {l : ℕ} {marks values before after : List ℕ} {answer : Recovery}
      → Recovers l marks values before after answer → recovered_refusal answer ≡ 0
      → Behind l marks values (take l after) (recovered_mode answer) (recovered_cost answer)
  pub returned :
      {mode : ℕ} {message marks values before after : List ℕ} {answer : Recovery}
      → Sendable message mode
      → Formed (length message) marks values (length before)
      → ((y : List Bool) → length y ≡ payload_bits (length message) → (y ≡ whitened (payload message mode) → ⊥)
      → 2 * cost uplink_words (received (length message) marks values) (whitened (payload message mode))
      < apart (coded_payload message mode) (coded uplink_words y) (received (length message) marks values))
      → Recovers (length message) marks values before after answer
      → Returned message mode before after answer

-- document 01, "What the contracts have to rule out": no second answer, and no second state of the lent buffer, satisfies a contract
pub record NoSecond : Type 0 where
  pub build_answer :
      {l mode : ℕ} {message before after after' : List ℕ} {answer answer' : Built}
      → Builds l mode message before after answer → Builds l mode message before after' answer' → answer ≡ answer'
  pub build_buffer :
      {l mode : ℕ} {message before after after' : List ℕ} {answer answer' : Built}
      → Builds l mode message before after answer → Builds l mode message before after' answer' → after ≡ after'
  pub recover_answer :
      {l : ℕ} {marks values before after after' : List ℕ} {answer answer' : Recovery}
      → Recovers l marks values before after answer → Recovers l marks values before after' answer' → answer ≡ answer'
  pub recover_buffer :
      {l : ℕ} {marks values before after after' : List ℕ} {answer answer' : Recovery}
      → Recovers l marks values before after answer → Recovers l marks values before after' answer' → after ≡ after'

-- the same number of values, and the same ones in every sub-packet that is heard
pub record Alike (marks values others : List ℕ) : Type 0 where
  pub sized : length values ≡ length others
  pub same : (s p : ℕ) → p < 24 → get_or marks s 0 ≡ 1 → get_or values (24 * s + p) 0 ≡ get_or others (24 * s + p) 0

-- document 01, "From soft values to message": what lost sub-packets, zeros and costs are worth
pub record SoftValues : Type 0 where
  -- "All values of a lost sub-packet count as zero, and two runs that differ only there answer alike."
  pub lost_answer :
      {l : ℕ} {marks values others before after after' : List ℕ} {answer answer' : Recovery}
      → Alike marks values others → Recovers l marks values before after answer → Recovers l marks others before after' answer' → answer ≡ answer'
  pub lost_buffer :
      {l : ℕ} {marks values others before after after' : List ℕ} {answer answer' : Recovery}
      → Alike marks values others → Recovers l marks values before after answer → Recovers l marks others before after' answer' → after ≡ after'
  -- "A zero says nothing."
  pub zero_says_nothing : (b : Bool) → against b 0 ≡ 0
  -- the cost is "at most 795,648"
  pub most :
      {l : ℕ} {marks values before after : List ℕ} {answer : Recovery}
      → Recovers l marks values before after answer → recovered_cost answer ≤ 795648

-- any program for build: its answer and what it leaves in the buffer, for every input
pub record Builder : Type 0 where
  pub answer : (l mode : ℕ) (message before : List ℕ) → Built
  pub after : (l mode : ℕ) (message before : List ℕ) → List ℕ
  pub meets : (l mode : ℕ) (message before : List ℕ) → Builds l mode message before (after l mode message before) (answer l mode message before)

-- any program for recover
pub record Recoverer : Type 0 where
  pub answer : (l : ℕ) (marks values before : List ℕ) → Recovery
  pub after : (l : ℕ) (marks values before : List ℕ) → List ℕ
  pub meets : (l : ℕ) (marks values before : List ℕ) → Recovers l marks values before (after l marks values before) (answer l marks values before)

-- the programs that document 01 shuts out by name do not meet the contracts
pub record ShutOut : Type 0 where
  pub refuses_every_build : (b : Builder) → ((l mode : ℕ) (message before : List ℕ) → built_refusal (b.answer l mode message before) ≡ 0 → ⊥) → ⊥
  pub gives_one_frame :
      (b : Builder) (frame : List ℕ)
      → ((l mode : ℕ) (message before : List ℕ) → built_refusal (b.answer l mode message before) ≡ 0 → take (frame_size l) (b.after l mode message before) ≡ frame) → ⊥
  pub builds_nothing : (b : Builder) → ((l mode : ℕ) (message before : List ℕ) → b.after l mode message before ≡ before) → ⊥
  pub refuses_every_frame : (r : Recoverer) → ((l : ℕ) (marks values before : List ℕ) → recovered_refusal (r.answer l marks values before) ≡ 0 → ⊥) → ⊥
  pub returns_one_message :
      (r : Recoverer) (message : List ℕ)
      → ((l : ℕ) (marks values before : List ℕ) → recovered_refusal (r.answer l marks values before) ≡ 0 → take l (r.after l marks values before) ≡ message) → ⊥
  pub recovers_nothing : (r : Recoverer) → ((l : ℕ) (marks values before : List ℕ) → r.after l marks values before ≡ before) → ⊥
