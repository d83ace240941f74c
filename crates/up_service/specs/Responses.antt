-- What each request is answered, and the state that it leaves.
use Rattle.std.specs.Prelude.{◌≡◌, ℕ, Bool, List, [], None, IfSome}
use Rattle.sqlite_trees.specs.declared.store.Store.{Ghosts}
use Rattle.up_sign.specs.Schemes.{Rules}
use Rattle.up_machine.specs.declared.answer.Answer.{Answer}
use Rattle.up_machine.specs.declared.answer.Answer.TheVariants.{Done, Already, Reply, File, Refused}
use Rattle.up_machine.specs.declared.command.Command.{Command}
use Rattle.up_heads.specs.Responses.{response_of, check_response_of, refusal_response_of}
use Rattle.up_http.specs.declared.asked.Next.{Next}
use Rattle.up_http.specs.declared.asked.What.{What}
use Rattle.up_http.specs.declared.asked.What.TheVariants.{Call, Fixed}
use Rattle.up_records.specs.Standing.{Standing, state}
use Rattle.up_desk.specs.Desks.{DeskView}
use Rattle.up_desk.specs.Serving.{outright}
use Rattle.up_service.specs.Answers.{AnswersAs, answered_as}

-- a reply's or a file's text is the body
abbrev pub ok_response : List ℕ → Bool → Bool → List ℕ
ok_response text last head = response_of 200 None last head text

-- the response to what a desk answers; what is done, or was done already, has no text
unfoldable pub answer_response : Answer → Bool → Bool → List ℕ
answer_response Done last head = ok_response [] last head
answer_response Already last head = ok_response [] last head
answer_response (Reply r) last head = ok_response r.text last head
answer_response (File text) last head = ok_response text last head
answer_response (Refused r) last head = refusal_response_of r last head

-- a command is served at the moment, or its response is that of a refusal for want of memory or by the database
abbrev pub AnswersCall : Rules → ℕ → Command → Bool → Bool → List ℕ → Standing → Standing → Type 0
AnswersCall k at command last head text old new =
    AnswersAs (λ r. refusal_response_of r last head) (λ s. answered_as (λ answer. answer_response answer last head) k s at command) k text old new

-- whatever the database does and its tables show, the bytes are the whole response to some answer of the desk, which is a refusal where
-- the command is refused outright
abbrev pub IsResponse : Rules → ℕ → Command → Bool → Bool → List ℕ → Type 0
IsResponse k at command last head text = (answer : Answer) × (text ≡ answer_response answer last head)
    × IfSome (outright k at command) (λ r. answer ≡ Refused r)

-- whatever the database does, a fixed answer is that one and leaves the desk as it was
abbrev pub IsResponseTo : {K D : Type 0} → (K → Rules) → Ghosts D → ℕ → DeskView K D → What → Bool → Bool → List ℕ → DeskView K D → Type 0
IsResponseTo rules g at old (Call command) last head text new =
    (new.scheme ≡ old.scheme) × IsResponse (rules old.scheme) at command last head text
    × AnswersCall (rules old.scheme) at command last head text (state g old.store) (state g new.store)
IsResponseTo rules g at old (Fixed check) last head text new = (text ≡ check_response_of check last head) × (new ≡ old)

-- what a desk may answer a request at a moment, whether it ends the stream and whether it is HEAD's told, and how it leaves it
abbrev pub Responses : {K D : Type 0} → (K → Rules) → Ghosts D → ℕ → DeskView K D → Next → List ℕ → DeskView K D → Type 0
Responses rules g at old next text new = IsResponseTo rules g at old next.what next.last next.head text new
