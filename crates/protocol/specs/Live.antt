-- Request #102: nothing live is ignored: the machine passes over no report of a driver or timer that runs.
use Rattle.std.specs.Prelude.{ℕ, ◌≡◌, Bool, false, List, T}
use Rattle.event.specs.Call.{Call}
use Rattle.event.specs.Kind.{kind_of, fields_of}
use Rattle.event.specs.declared.Event.{Event}
use Rattle.record.specs.Limits.{Limits}
use Rattle.record.specs.Tags.{tag_of}
use Rattle.record.specs.declared.Connection.{Connection}
use Rattle.protocol.specs.Condition.{Condition, live, good_hello, good_token, expected_bit, next_send_bit, nothing, condition_of, is_live}
use Rattle.protocol.specs.Step.{result_of}
use Rattle.protocol.specs.declared.Answer.TheVariants.{Ignored}

-- Whether an event with this condition and tag is live for a record. The conditions of 4 to 9 and 20 to 23 ask for that, and no others.
abbrev pub is_live_by : Connection → (tag : ℕ) → Condition → Bool
is_live_by connection tag (live timer) = is_live tag (tag_of connection timer)
is_live_by connection tag good_hello = false
is_live_by connection tag good_token = false
is_live_by connection tag expected_bit = false
is_live_by connection tag next_send_bit = false
is_live_by connection tag nothing = false

-- Whether an event is live for a record.
abbrev pub is_live_event : Connection → Event → Bool
is_live_event connection event =
    let carried = fields_of (kind_of event) in
    is_live_by connection carried.tag (condition_of event.code carried.timer)

-- For every record, a live event is handled or refused. (A record that is not well formed is refused.)
abbrev pub NothingLiveIgnored : Limits → Type 0
NothingLiveIgnored limits =
    (connection : Connection) (call : Call) (cache : List ℕ) → T (is_live_event connection call.event)
    → (result_of limits connection call cache).outcome.answer ≡ Ignored → ⊥
