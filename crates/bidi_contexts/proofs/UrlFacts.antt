-- URLs as they are shown, and origins: only http and https have one. After the URL Standard, "Origin"; `null` for every other scheme is this project's own.
use Rattle.std.specs.Prelude.{◌≡◌, refl, ℕ, List, codes, Option, Some, None, option_map}
use Rattle.bidi_contexts.specs.Urls.{parsed, url_text, origin_text, about_blank}
use Rattle.bidi_contexts.proofs.OnLiterals.{browser_on_literals}

-- the text and the origin of a URL, where a text is one
abbrev pub shown_url : List ℕ → Option (List ℕ × List ℕ)
shown_url text = option_map (λ url. (url_text url, origin_text url)) (parsed text)

pub about_blank_is_the_url_of_its_text : parsed (codes "about:blank") ≡ Some about_blank
unfolding browser_on_literals
about_blank_is_the_url_of_its_text = refl

pub about_has_no_origin : shown_url (codes "about:blank") ≡ Some (codes "about:blank", codes "null")
unfolding browser_on_literals
about_has_no_origin = refl

-- the serialised URL has a path
pub http_has_its_origin : shown_url (codes "http://a.test") ≡ Some (codes "http://a.test/", codes "http://a.test")
unfolding browser_on_literals
http_has_its_origin = refl

pub https_drops_its_own_port : shown_url (codes "https://u:p@A.test:443/b?d#e") ≡ Some (codes "https://u:p@a.test/b?d#e", codes "https://a.test")
unfolding browser_on_literals
https_drops_its_own_port = refl

pub other_port_stands_in_the_origin : shown_url (codes "http://a.test:8080/x") ≡ Some (codes "http://a.test:8080/x", codes "http://a.test:8080")
unfolding browser_on_literals
other_port_stands_in_the_origin = refl

pub ws_has_no_origin : shown_url (codes "ws://a.test/") ≡ Some (codes "ws://a.test/", codes "null")
unfolding browser_on_literals
ws_has_no_origin = refl

pub wss_has_no_origin : shown_url (codes "wss://a.test/") ≡ Some (codes "wss://a.test/", codes "null")
unfolding browser_on_literals
wss_has_no_origin = refl

pub ftp_has_no_origin : shown_url (codes "ftp://a.test/") ≡ Some (codes "ftp://a.test/", codes "null")
unfolding browser_on_literals
ftp_has_no_origin = refl

-- not even that of the http URL in it
pub blob_has_no_origin : shown_url (codes "blob:http://a.test/1") ≡ Some (codes "blob:http://a.test/1", codes "null")
unfolding browser_on_literals
blob_has_no_origin = refl

pub file_has_no_origin : shown_url (codes "file:///x") ≡ Some (codes "file:///x", codes "null")
unfolding browser_on_literals
file_has_no_origin = refl

pub data_has_no_origin : shown_url (codes "data:,x") ≡ Some (codes "data:,x", codes "null")
unfolding browser_on_literals
data_has_no_origin = refl

pub path_alone_is_no_url : shown_url (codes "/x") ≡ None
unfolding browser_on_literals
path_alone_is_no_url = refl

pub empty_text_is_no_url : shown_url (codes "") ≡ None
unfolding browser_on_literals
empty_text_is_no_url = refl
