pub mod UriLaws  -- Two stores whose uris are the same place by place have the same uris
pub mod CompareLaws  -- The programs of documents with the same uris can be compared
