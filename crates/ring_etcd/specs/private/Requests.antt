-- The bodies of the requests. All keys and values are in base 64.
use Rattle.std.specs.Prelude.{ℕ, List, ◌++◌, codes}

-- puts a value at a key
abbrev pub put_text : List ℕ → List ℕ → List ℕ
put_text key value =
    codes "{\"key\":\"" ++ (key ++ (codes "\",\"value\":\"" ++ (value ++ codes "\"}")))

-- reads the value at a key
abbrev pub get_text : List ℕ → List ℕ
get_text key = codes "{\"key\":\"" ++ (key ++ codes "\"}")

-- reads the first pairs from a key on and before another, and asks for no sort
abbrev pub range_text : List ℕ → List ℕ → List ℕ
range_text key end =
    codes "{\"key\":\"" ++ (key ++ (codes "\",\"range_end\":\"" ++ (end
    ++ codes "\",\"limit\":\"128\"}")))

-- Puts a value at a key if its last put has this revision, and reads the key otherwise.
abbrev pub claim_text : List ℕ → List ℕ → List ℕ → List ℕ
claim_text key revision value =
    codes "{\"compare\":[{\"key\":\"" ++ (key
    ++ (codes "\",\"target\":\"MOD\",\"result\":\"EQUAL\",\"mod_revision\":\"" ++ (revision
    ++ (codes "\"}],\"success\":[{\"request_put\":{\"key\":\"" ++ (key
    ++ (codes "\",\"value\":\"" ++ (value
    ++ (codes "\"}}],\"failure\":[{\"request_range\":{\"key\":\"" ++ (key
    ++ codes "\"}}]}")))))))))

-- Puts a value at a key if it is there, and reads the key otherwise.
abbrev pub renew_text : List ℕ → List ℕ → List ℕ
renew_text key value =
    codes "{\"compare\":[{\"key\":\"" ++ (key
    ++ (codes "\",\"target\":\"VALUE\",\"result\":\"EQUAL\",\"value\":\"" ++ (value
    ++ (codes "\"}],\"success\":[{\"request_put\":{\"key\":\"" ++ (key
    ++ (codes "\",\"value\":\"" ++ (value
    ++ (codes "\"}}],\"failure\":[{\"request_range\":{\"key\":\"" ++ (key
    ++ codes "\"}}]}")))))))))

-- Nothing is at a key, nor at the keys from one on and before another.
abbrev pub free_text : List ℕ → List ℕ → List ℕ → List ℕ
free_text key from to =
    codes "\"compare\":[{\"key\":\"" ++ (key
    ++ (codes "\",\"target\":\"CREATE\",\"result\":\"EQUAL\",\"create_revision\":\"0\"},{\"key\":\""
    ++ (from ++ (codes "\",\"range_end\":\"" ++ (to
    ++ codes "\",\"target\":\"CREATE\",\"result\":\"EQUAL\",\"create_revision\":\"0\"}]")))))

-- Puts a value at a key if nothing is there, nor at the keys from one on and before another. Reads
-- the key twice otherwise.
abbrev pub first_text : List ℕ → List ℕ → List ℕ → List ℕ → List ℕ
first_text key value from to =
    codes "{" ++ (free_text key from to
    ++ (codes ",\"success\":[{\"request_put\":{\"key\":\"" ++ (key
    ++ (codes "\",\"value\":\"" ++ (value
    ++ (codes "\"}}],\"failure\":[{\"request_range\":{\"key\":\"" ++ (key
    ++ (codes "\"}},{\"request_range\":{\"key\":\"" ++ (key ++ codes "\"}}]}")))))))))

-- The base has this value, and nothing is at the key.
abbrev pub compare_text : List ℕ → List ℕ → List ℕ → List ℕ
compare_text base_key base key =
    codes "\"compare\":[{\"key\":\"" ++ (base_key
    ++ (codes "\",\"target\":\"VALUE\",\"result\":\"EQUAL\",\"value\":\"" ++ (base
    ++ (codes "\"},{\"key\":\"" ++ (key
    ++ codes "\",\"target\":\"CREATE\",\"result\":\"EQUAL\",\"create_revision\":\"0\"}]")))))

-- If a condition does not hold, the key and the base are read.
abbrev pub failure_text : List ℕ → List ℕ → List ℕ
failure_text base_key key =
    codes "\"failure\":[{\"request_range\":{\"key\":\"" ++ (key
    ++ (codes "\"}},{\"request_range\":{\"key\":\"" ++ (base_key ++ codes "\"}}]")))

-- puts an entry on these conditions
abbrev pub entry_text : List ℕ → List ℕ → List ℕ → List ℕ → List ℕ
entry_text base_key base key value =
    codes "{" ++ (compare_text base_key base key
    ++ (codes ",\"success\":[{\"request_put\":{\"key\":\"" ++ (key
    ++ (codes "\",\"value\":\"" ++ (value
    ++ (codes "\"}}]," ++ (failure_text base_key key ++ codes "}")))))))

-- If the conditions hold, the base gets another value, and keys are deleted.
abbrev pub success_text : List ℕ → List ℕ → List ℕ → List ℕ → List ℕ
success_text base_key new from to =
    codes "\"success\":[{\"request_put\":{\"key\":\"" ++ (base_key
    ++ (codes "\",\"value\":\"" ++ (new
    ++ (codes "\"}},{\"request_delete_range\":{\"key\":\"" ++ (from
    ++ (codes "\",\"range_end\":\"" ++ (to ++ codes "\"}}]")))))))

-- Makes another base count on these conditions, and deletes keys.
abbrev pub switch_text : List ℕ → List ℕ → List ℕ → List ℕ → List ℕ → List ℕ → List ℕ
switch_text base_key base key new from to =
    codes "{" ++ (compare_text base_key base key ++ (codes "," ++ (success_text base_key new from to
    ++ (codes "," ++ (failure_text base_key key ++ codes "}")))))
