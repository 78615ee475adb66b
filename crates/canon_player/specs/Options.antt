-- The options of a script's functions, in its component.
use Rattle.std.specs.Prelude.{Bool, List, None, Option, Some, [], false, if◌then◌else◌, slice_get, ℕ, ◌+◌, ◌∷◌}
use Rattle.canon_abi.specs.declared.options.CanonicalOptions.{CanonicalOptions}
use Rattle.canon_abi.specs.declared.options.StringEncoding.{StringEncoding}
use Rattle.canon_types.specs.Table.{TypeTable}
use Rattle.canon_types.specs.declared.types.TypeFunc.{TypeFunc}

-- whether a function is async
abbrev pub is_async : Option TypeFunc → Bool
is_async None = false
is_async (Some f) = f.async_

-- the core function that runs after a call of function i, where there is one: it has the same number
abbrev pub post_of : ℕ → Option Bool → Option ℕ
post_of i None = None
post_of i (Some has_post) = if has_post then Some i else None

-- the options of function i, which has a post-return function or not
abbrev pub options_for : TypeTable → StringEncoding → ℕ → Bool → CanonicalOptions
options_for t encoding i has_post = record { instance = 0; string_encoding = encoding; async_ = is_async (slice_get t.funcs i); post_return = post_of i (Some has_post) }

-- of the functions from number i on
abbrev pub options_from : TypeTable → StringEncoding → ℕ → List Bool → List CanonicalOptions
options_from t encoding i [] = []
options_from t encoding i (has_post ∷ posts) = options_for t encoding i has_post ∷ options_from t encoding (i + 1) posts

-- the number of the options of function i: those of the functions of the host come first
abbrev pub options_number : ℕ → ℕ
options_number i = i + 1

-- the options of the functions of the host
abbrev pub host_options : StringEncoding → CanonicalOptions
host_options encoding = record { instance = 0; string_encoding = encoding; async_ = false; post_return = None }

-- all of them: those of the functions of the host, and then those of each function of the script
abbrev pub script_options : TypeTable → StringEncoding → List Bool → List CanonicalOptions
script_options t encoding posts = host_options encoding ∷ options_from t encoding 0 posts
