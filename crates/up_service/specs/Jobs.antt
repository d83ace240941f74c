-- The words of the command line.
use Rattle.std.specs.Prelude.{ℕ, ◌&&◌, List, [], ◌∷◌, Option, None, Some, option_map, codes, bytes_eq, decimal, nat_lt, nat_le, if◌then◌else◌, string_bytes}
use Rattle.std.specs.Str.Parse.{digits_value}
use Rattle.up_service.specs.declared.job.Job.{Job}
use Rattle.up_service.specs.declared.job.Job.TheVariants.{Run, Serve, Digest}

-- a job, with the bytes of its files' names
pub data JobView : Type 0 where
  running : List ℕ → JobView
  serving : List ℕ → ℕ → ℕ → Option (List ℕ) → JobView
  digesting : List ℕ → JobView

abbrev pub job_shown : Job → JobView
job_shown (Run file) = running (string_bytes file)
job_shown (Serve file port count socket) = serving (string_bytes file) port count (option_map string_bytes socket)
job_shown (Digest file) = digesting (string_bytes file)

abbrev pub job_named : List ℕ → List ℕ → Option JobView
job_named word file = if bytes_eq word (codes "run") then Some (running file)
    else if bytes_eq word (codes "digest") then Some (digesting file) else None

-- the number of 1 to so many that is written so in decimal
abbrev pub number_to : ℕ → List ℕ → Option ℕ
number_to most text =
    let n = digits_value 10 text in
    if bytes_eq text (decimal n) && (nat_lt 0 n && nat_le n most) then Some n else None

-- a port is 1 to 65535, a count of connections 1 to 1000000
abbrev pub serve_numbered : List ℕ → Option ℕ → Option ℕ → Option (List ℕ) → Option JobView
serve_numbered file (Some port) (Some count) socket = Some (serving file port count socket)
serve_numbered file (Some port) None socket = None
serve_numbered file None count socket = None

abbrev pub serve_named : List ℕ → List ℕ → List ℕ → List ℕ → Option (List ℕ) → Option JobView
serve_named word file port count socket =
    if bytes_eq word (codes "serve") then serve_numbered file (number_to 65535 port) (number_to 1000000 count) socket else None

-- `run FILE`, `digest FILE`, `serve FILE PORT COUNT` and `serve FILE PORT COUNT SOCKET`
abbrev pub job_of : List (List ℕ) → Option JobView
job_of [] = None
job_of (word ∷ []) = None
job_of (word ∷ file ∷ []) = job_named word file
job_of (word ∷ file ∷ port ∷ []) = None
job_of (word ∷ file ∷ port ∷ count ∷ []) = serve_named word file port count None
job_of (word ∷ file ∷ port ∷ count ∷ socket ∷ []) = serve_named word file port count (Some socket)
job_of (word ∷ file ∷ port ∷ count ∷ socket ∷ more ∷ rest) = None
